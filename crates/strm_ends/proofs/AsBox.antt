-- A held member and its parts own what a box at the same types owns.
use mir.Syntax.{impl, tnil, dnil}
use mathlib.Core.List.{[]}
use mathlib.Core.Path.{◌≡◌, refl}
use Rattle.std.specs.Prelude.{None, Some}
use Rattle.strm_ends.specs.Held.{KeptValue, IsOpen}
use denote.Signature.{Slot, plain}
use Rattle.std_alloc.proofs.BoxSteps.Form.{Bx}
use Rattle.std_heap.specs.contracts.Global as Heap
use Rattle.std_heap.specs.contracts.GlobalAllocator.TheImpl.{ghosts, dict}
use Rattle.std_heap.proofs.Global.TheLaws as heap
use Rattle.strm_ends.specs.contracts.member.Member as Member
use Rattle.strm_ends.proofs.member.Member.TheLaws as member
use Rattle.strm_ends.specs.contracts.parts.Parts as Parts
use Rattle.strm_ends.specs.contracts.held.Held as Held

abbrev pub E : Bx
E = record { row = Member.the_row; laws = member.the_row_laws; al = record { row = Heap.the_row; laws = heap.the_row_laws; g = ghosts; d = dict; drops = impl [] tnil dnil } }

abbrev pub FromParts : Slot 0
FromParts = plain (λ _. Parts.the_row Member.the_row Heap.the_row ghosts)

abbrev pub FromHeld : Slot 0
FromHeld = plain (λ _. Held.the_row)

-- what is held, where a member is
pub opened : (k : KeptValue) → IsOpen k → Member.the_row.Denot
opened None is_open = absurd is_open
opened (Some kept) is_open = kept

pub opened-is : (k : KeptValue) (is_open : IsOpen k) → k ≡ Some (opened k is_open)
unfolding opened
opened-is None is_open = absurd is_open
opened-is (Some kept) is_open = refl
