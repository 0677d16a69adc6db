-- A pair that is made of an image (docs/IMAGES.md).
use Rattle.std.specs.Prelude.{ℕ, ◌≡◌, ◌+◌, ◌-◌, true, List, [], Option, None, Some, Result, Ok, Err}
use Rattle.strm_pair.specs.Prelude.{Config, Refusal, Fates, PairState, Version, laid_blocks, IsTextOf, Imaged, image, laid_on, Behaviour}
use Rattle.strm_laws.specs.Known.{all_known}

-- bytes are the image of a state and of what has gone, in either version
abbrev pub IsImageOf : List ℕ → Imaged → Type 0
IsImageOf bytes x = (v : Version) × IsTextOf image bytes (v, x)

-- the same of a state on whose streams there are modules of all names; or that of none such
pub record IsImageFor (K : Behaviour) (bytes : List ℕ) (x : Imaged) : Type 0 where
  pub image : IsImageOf bytes x
  pub known : all_known K x.state ≡ true

abbrev pub IsNoImage : Behaviour → List ℕ → Type 0
IsNoImage K bytes = (x : Imaged) → IsImageFor K bytes x → ⊥

-- the refusal of a call that gives its store back where it is refused
abbrev pub refusal_in : {A B : Type 0} → Result A (Refusal × B) → Option Refusal
refusal_in (Ok x) = None
refusal_in (Err e) = Some e.0

-- what had gone by each rule, and what was made, as the ledgers of an image have it
abbrev pub fates_in : Imaged → Fates
fates_in x = record {
  from_master = x.fates.master;
  from_slave = x.fates.slave;
  made_from_master = x.state.books.master.made;
  made_from_slave = x.state.books.slave.made;
}

-- how many blocks of each kind the messages of an image take
abbrev pub image_blocks : Imaged → ℕ
image_blocks x = laid_blocks (laid_on x.state.ends.master) + laid_blocks (laid_on x.state.ends.slave)

-- A pair of these sizes over a store that held nothing: its state, and what has gone, are the image's, its journal is empty and begins there,
-- and all blocks are free but those of the image's messages.
abbrev pub restored : Config → Imaged → PairState
restored limits x = record {
  state = x.state;
  base = x.state;
  base_fates = fates_in x;
  past = [];
  journal = [];
  limits = limits;
  free = record { mblks = limits.mblks - image_blocks x; dblks = limits.dblks - image_blocks x };
  fates = fates_in x;
}
