-- A store keeps the ends of each list.
use Rattle.std.proofs.Common.{ℕ, ◌≡◌, ◌≢◌, true, false, cond, eqb, List, length, refl, sym, ap, ◌∙◌, arith}
use Rattle.std.specs.Prelude.{Option, None, Some, option_map, unwrap_or}
use Rattle.std.proofs.lemmas.Bool.Decides.{nat_tests}
use Rattle.strm_raw.specs.Numbered.{Nodes, msg_number}
use Rattle.strm_raw.specs.Roster.{Msg}
use Rattle.strm_raw.specs.Lists.{IsList, begin_of, end_of, kept, nowhere, opened}
use Rattle.strm_raw.specs.declared.neighbours.Ends.{Ends}
use Rattle.strm_raw.specs.declared.msg_nodes.MsgLink.{MsgLink}
use Rattle.strm_raw.proofs.Standing.{empty}
use Rattle.strm_raw.proofs.Tied.{list-begin, list-end, no-first, no-last, some-none}

-- an end that is there where messages are
end-is : (f : MsgLink → ℕ) (o : Option MsgLink) (n : ℕ) → (n ≡ 0 → option_map f o ≡ None) → (option_map f o ≡ None → n ≡ 0)
    → cond (eqb n 0) None (Some (unwrap_or o nowhere)) ≡ o
end-is f None n none zero =
    let z = zero refl in let yes : eqb n 0 ≡ true = grind (arith, nat_tests) in
    ap (λ t. cond t None (Some nowhere)) yes
end-is f (Some l) n none zero =
    let some : n ≢ 0 = λ z. some-none (f l) (none z) in let no : eqb n 0 ≡ false = grind (arith, nat_tests) in
    ap (λ t. cond t None (Some l)) no

pub list-kept : (v : Nodes) (e : Ends) (q : List Msg) → IsList v e q → e.count ≡ length q → opened (kept e) ≡ e
list-kept v e q tied count =
    let first = list-begin v e q tied in
    let last = list-end v e q tied in
    let long = λ (q : List Msg). length q in
    let none = λ (z : e.count ≡ 0). empty q (sym count ∙ z) in
    let first_is = end-is (msg_number v.mat) e.first e.count (λ z. first ∙ ap begin_of (none z)) (λ s. count ∙ ap long (no-first q (sym first ∙ s))) in
    let last_is = end-is (msg_number v.mat) e.last e.count (λ z. last ∙ ap (end_of None) (none z)) (λ s. count ∙ ap long (no-last q (sym last ∙ s))) in
    λ j. record { first = first_is j; last = last_is j; count = e.count }
