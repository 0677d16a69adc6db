-- The behaviour of code_page: what it does, with what it owes the stream on which it stands.
use Rattle.std.specs.Prelude.{true, false}
use Rattle.strm_laws.specs.Behaviours.{Behaviour}
use Rattle.code_page.specs.CodePages.{knows_page, no_page, ours, page_puts}
use Rattle.code_page.specs.PageLaws.{page-forgets, page-good, page-put}

abbrev pub code_page : Behaviour
code_page = record {
  knows = knows_page;
  fresh = λ n. no_page;
  puts = λ cells here m x. page_puts (ours here.way m) cells here m x;
  changes = true;
  holds = λ here m x. false;
  goes = λ way ms x. true;
  good = page-good;
  put = λ cells here m x. page-put cells here m x;
  forgets = λ cells are here m x. page-forgets cells are x here m;
}
