use Rattle.std.proofs.Common.{ℕ, ◌≡◌, ◌≤◌, ◌+◌, ◌-◌, List, ◌++◌, length, take, drop, sym, ap, ◌∙◌, refl, arith, length-drop}
use Rattle.std.proofs.lemmas.Bool.{ltb-false}
use Rattle.std.proofs.lemmas.List.{length-take-le}
use Rattle.std.proofs.lemmas.Option.{slice_get_past}
use Rattle.std.specs.Prelude.{Some, slice_get}
use Rattle.strm_types.specs.Journal.{entry_len}
use Rattle.strm_handle.specs.Entries.{taking}
use Rattle.strm_handle.proofs.TakenEntries.{asks-room, is-there, takes-entry, takes-none, takes-some}
use Rattle.strm_handle.proofs.recording.take_entry.Goals as goal

pub returns-in_default : goal.returns-in_default
returns-in_default c =
    let at = c.args.at.now in let told = c.args.told.now in let out = c.args.out.now in
    let entries = c.args.entries.now in
    let past : length entries ≤ at.entry = ltb-false at.entry (length entries) (sym c.in_default.ensures.lookup.0) in
    takes-none entries c.args.bytes.now (taking at told out) (taking at told out) c.refused.result
    (slice_get_past entries at.entry past) c.refused.ensures refl

pub returns-in_default-end_of : goal.returns-in_default-end_of
returns-in_default-end_of c =
    let at = c.args.at.now in let told = c.args.told.now in let out = c.args.out.now in
    let entries = c.args.entries.now in let bytes = c.args.bytes.now in let s = c.in-Some.entry.now in
    let got : slice_get entries at.entry ≡ Some s = is-there entries at.entry s c.in-Some.ensures.lookup.0 c.in-Some.ensures.lookup.1 in
    takes-some entries bytes (taking at told out) (taking at told out) c.refused-in_default-end_of.result s got
    (λ le. let sum = c.numbers_of-entry.ensures.bytes in let no : ⊥ = omega (arith, sum, c.in_default-end_of.ensures.lacking, le) in absurd no)

pub returns-then-behind-at : goal.returns-then-behind-at
returns-then-behind-at c =
    let at = c.args.at.now in let told = c.args.told.now in let out = c.args.out.now in let made = c.numbers_of-entry.result in
    let entries = c.args.entries.now in let bytes = c.args.bytes.now in let s = c.in-Some.entry.now in
    let sum = c.numbers_of-entry.ensures.bytes in let end = c.in-Some-end_of.ensures.there in
    let got : slice_get entries at.entry ≡ Some s = is-there entries at.entry s c.in-Some.ensures.lookup.0 c.in-Some.ensures.lookup.1 in
    takes-some entries bytes (taking at told out) (taking at made out) c.refused-then-behind-at.result s got
    (λ le. asks-room s (drop at.byte bytes) (omega (arith, le, length-drop at.byte bytes)) (taking at told out) (taking at made out) c.refused-then-behind-at.result c.numbers_of-entry.ensures.told sum
    (omega (arith, sum, end.0, c.if-behind-at.true)) refl refl c.refused-then-behind-at.ensures)

pub returns : goal.returns
returns c =
    let at = c.args.at.now in let told = c.args.told.now in let out = c.args.out.now in let made = c.numbers_of-entry.result in
    let entries = c.args.entries.now in let bytes = c.args.bytes.now in let s = c.in-Some.entry.now in
    let sum = c.numbers_of-entry.ensures.bytes in let behind = c.in-Some-end_of.behind in let end = c.in-Some-end_of.ensures.there in let rest : List ℕ = drop at.byte bytes in
    let got : slice_get entries at.entry ≡ Some s = is-there entries at.entry s c.in-Some.ensures.lookup.0 c.in-Some.ensures.lookup.1 in
    takes-some entries bytes (taking at told out) (taking (record { entry = at.entry + 1; byte = behind }) made c.give.new.out) 0 s got
    (λ le. let within : entry_len s ≤ length rest = omega (arith, le, length-drop at.byte bytes) in
    let many : behind - at.byte ≡ entry_len s = omega (arith, sum, end.0) in
    let front : length (take (entry_len s) rest) ≡ entry_len s = length-take-le (entry_len s) rest within in
    takes-entry s rest within (taking at told out) (taking (record { entry = at.entry + 1; byte = behind }) made c.give.new.out) 0 c.numbers_of-entry.ensures.told sum (omega (arith, sum, end.0, c.if-behind-at.false))
    (c.give.ensures ∙ ap (λ n. take n rest ++ drop (length (take n rest)) out) many ∙ ap (λ n. take (entry_len s) rest ++ drop n out) front)
    refl (end.0 ∙ ap (λ n. at.byte + n) sum) refl)
