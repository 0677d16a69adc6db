-- The new message hangs behind the old one.
use Rattle.strm_ldterm.proofs.Grows.{hang-first, hang-apart, grown-hang}
use Rattle.strm_ldterm.proofs.grown_messages.hang.Goals as goal

pub link-requires-clause-first_in_hand : goal.link-requires-clause-first_in_hand
link-requires-clause-first_in_hand g c = hang-first _ _ _ _ _ c.audit.ensures c.requires.data c.begin-more.ensures

pub link-requires-clause-apart : goal.link-requires-clause-apart
link-requires-clause-apart g c = hang-apart _ _ _ _ _ c.audit.ensures c.requires.data c.begin-more.ensures

pub returns-clause-grown : goal.returns-clause-grown
returns-clause-grown g c = grown-hang _ _ _ _ _ _ c.audit.ensures c.requires.data c.begin-more.ensures c.link.ensures.linked
