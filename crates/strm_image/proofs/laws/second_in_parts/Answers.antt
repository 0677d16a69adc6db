use Rattle.strm_image.proofs.WrittenRows.{image_told, laid_told, ldterm_told, messages_told, modules_told, own_told, pckt_told, ptem_told, queue_told}
use Rattle.strm_image.proofs.laws.second_in_parts.Goals as goal

pub returns : goal.returns
returns c = record {
  messages = messages_told;
  modules = modules_told;
  queue = queue_told;
  ldterm = ldterm_told;
  ptem = ptem_told;
  pckt = pckt_told;
  own = own_told;
  stream = laid_told;
  whole = image_told;
}
