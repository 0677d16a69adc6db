use Rattle.std.proofs.Common.{ℕ, replicate, subst, arith}
use Rattle.std.specs.Prelude.{MatchResult}
use Rattle.std.proofs.lemmas.List.{length-replicate}
use Rattle.strm_blocks.specs.Blocks.{Block, in_hand, block_at, token}
use Rattle.strm_blocks.specs.Outcomes.{Copied, NoneFree}
use Rattle.strm_blocks.proofs.Laws.{chain-some}
use Rattle.strm_msg.specs.Bytes.{bytes_of}
use Rattle.strm_msg.proofs.Gathering.{piece-first}
use Rattle.strm_msg.proofs.pulls.join.Goals as goal

pub kind-kind-requires-clause-within : goal.kind-kind-requires-clause-within
kind-kind-requires-clause-within g c = chain-some (g.B.Blocks.value c.args.store.now) (token c.args.message.now) c.audit.ensures c.requires.in_hand

pub returns : goal.returns
returns g c =
    let s = g.B.Blocks.value c.args.store.now in
    let chain = in_hand s (token c.args.message.now) in
    let block = piece-first (block_at 0 chain).kind (block_at 0 chain).band (replicate 256 0) (bytes_of chain) c.first_bytes.new.buffer c.args.count c.kind-kind.ensures c.band-band.ensures c.first_bytes.ensures.given (omega (arith, length-replicate {A = ℕ} 256 0)) c.requires.enough in
    subst (λ (b : Block). MatchResult c.block_of.result (λ m. Copied s (g.B.Blocks.value c.block_of.new.store) (token m) b) (λ _. NoneFree s (g.B.Blocks.value c.block_of.new.store))) block c.block_of.ensures
