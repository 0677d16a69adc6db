-- What is held, a pair or a trace, and its parts own what a box at the same types owns.
use mir.Syntax.{impl, tnil, dnil}
use mathlib.Core.List.{[]}
use denote.RattleType.{RattleType}
use denote.Signature.{Slot, plain}
use Rattle.std_alloc.proofs.BoxSteps.Form.{Bx}
use Rattle.std_heap.specs.contracts.Global as Heap
use Rattle.std_heap.specs.contracts.GlobalAllocator.TheImpl.{ghosts, dict}
use Rattle.std_heap.proofs.Global.TheLaws as heap
use Rattle.strm_handle.specs.contracts.stored.Stored as Trace
use Rattle.strm_handle.proofs.stored.Stored.TheLaws as trace
use Rattle.strm_handle.specs.contracts.kept.Kept as Kept
use Rattle.strm_handle.proofs.kept.Kept.TheLaws as kept
use Rattle.strm_handle.specs.contracts.parts.Parts as Parts
use Rattle.strm_handle.specs.contracts.held.Held as Held
use Rattle.strm_handle.specs.contracts.held_trace.HeldTrace as HeldTrace

abbrev pub E : Bx
E = record { row = Kept.the_row; laws = kept.the_row_laws; al = record { row = Heap.the_row; laws = heap.the_row_laws; g = ghosts; d = dict; drops = impl [] tnil dnil } }

abbrev pub OfTrace : Bx
OfTrace = record { row = Trace.the_row; laws = trace.the_row_laws; al = record { row = Heap.the_row; laws = heap.the_row_laws; g = ghosts; d = dict; drops = impl [] tnil dnil } }

abbrev pub FromParts : RattleType → Slot 0
FromParts X = plain (λ _. Parts.the_row X Heap.the_row ghosts)

abbrev pub FromHeld : Slot 0
FromHeld = plain (λ _. Held.the_row)

abbrev pub FromTrace : Slot 0
FromTrace = plain (λ _. HeldTrace.the_row)
