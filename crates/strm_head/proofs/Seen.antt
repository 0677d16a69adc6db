-- What is seen of the messages of a head without taking them is what they have.
use Rattle.strm_head.proofs.Prelude.{ℕ, ◌≡◌, Bool, true, false, cond, List, [], ◌∷◌, length, map, refl, sym, ap, ◌∙◌, arith, Option, None, is_none}
use Rattle.strm_head.proofs.Prelude.{unwrap_or, not, ◌==◌, ◌&&◌, ◌||◌, nat_le, nat_lt, nat_tests, kind-is, band-is}
use Rattle.strm_head.specs.Prelude.{ControlMode, Refuse, Data, Discard, Wanted, Any, is_wanted, first_data, Eagain, is_data_kind, is_control_kind}
use Rattle.strm_head.specs.Prelude.{Message, part, cells_of, size_of, is_high_priority, first_size, is_passed, is_refused, no_cells, starts_refused}
use Rattle.strm_head.specs.Prelude.{takes_none, Block, block_at, Peek, control_blocks, data_blocks, length_of_part, message_of, part_of}
use Rattle.std.specs.Prelude.{Some, is_some}
use Rattle.std.specs.List.{AllByRecursion}
use Rattle.strm_types.specs.declared.modes.Wanted.TheVariants.{High, Band}
use Rattle.strm_types.specs.Gets.{get_refusal}
use Rattle.strm_types.specs.Queue.{is_none_left}
use Rattle.strm_types.specs.Reads.{is_there, finds_none}
use Rattle.strm_blocks.specs.Outcomes.{Peeked}
use Rattle.strm_msg.proofs.Parts.{control-blocks-cons}
use Rattle.strm_queue.specs.Lengths.{length_on, or_next}
use Rattle.strm_head.specs.Drawing.{behind_passed, drops_control, first_passed, first_goes, goes}
use Rattle.strm_head.specs.Seen.{peek_wanted, gets_on}

pub parts-shown : (chain : List Block) → is_data_kind (block_at 0 chain).kind ≡ true
    → message_of chain ≡ record { kind = (block_at 0 chain).kind; band = (block_at 0 chain).band; control = part_of (control_blocks chain); body = part_of (data_blocks chain); plain = [] }
unfolding message_of
parts-shown chain is = rw is refl

-- a part that is measured is as long
part-size : (blocks : List Block) → unwrap_or (length_of_part blocks) 0 ≡ length (part (part_of blocks))
part-size [] = refl
part-size (b ∷ blocks) = refl

-- bytes that can be given
gives : (xs : List ℕ) → nat_lt 0 (length xs) ≡ not (no_cells xs)
gives [] = refl
gives (x ∷ xs) = grind (arith, nat_tests)

-- what std says of an option that isn't there
pub absent : (o : Option ℕ) (r : Bool) → is_some o ≡ not r → r ≡ is_none o
absent None true is = refl
absent None false is = absurd (cc)
absent (Some n) true is = absurd (cc)
absent (Some n) false is = refl

starts-control : (chain : List Block) → is_control_kind (block_at 0 chain).kind ≡ is_there (part_of (control_blocks chain))
unfolding is_control_kind
starts-control [] = refl
starts-control (b ∷ chain) = at (is_control_kind b.kind) ∙ ap (λ blocks. is_there (part_of blocks)) (sym (control-blocks-cons b chain))
  where
    at : (t : Bool) → t ≡ is_there (part_of (cond t (b ∷ control_blocks chain) []))
    at true = refl
    at false = refl

module _ (chain : List Block) (readable : is_data_kind (block_at 0 chain).kind ≡ true) where
  body-passed : is_none (length_of_part (data_blocks chain)) ≡ is_passed Discard (message_of chain)
  body-passed = at (data_blocks chain) ∙ ap (λ (m : Message ℕ). is_passed Discard m) (sym (parts-shown chain readable))
    where
      at : (blocks : List Block) → is_none (length_of_part blocks) ≡ cond (is_there (part_of blocks)) false true
      at [] = refl
      at (b ∷ blocks) = refl

  body-size : unwrap_or (length_of_part (data_blocks chain)) 0 ≡ length (part (message_of chain).body)
  body-size = part-size (data_blocks chain) ∙ ap (λ (m : Message ℕ). length (part m.body)) (sym (parts-shown chain readable))

  -- the first block is of the control part, if there is one
  pub control-there : is_control_kind (block_at 0 chain).kind ≡ is_there (message_of chain).control
  control-there = starts-control chain ∙ ap (λ (m : Message ℕ). is_there m.control) (sym (parts-shown chain readable))

  -- a message of data has no other bytes
  size-seen : size_of (message_of chain) ≡ length (cells_of (message_of chain))
  unfolding size_of
  size-seen =
      let none : length (message_of chain).plain ≡ 0 = ap (λ (m : Message ℕ). length m.plain) (parts-shown chain readable) in
      omega (arith, none)

  -- what a read that has begun to give takes of it
  data-goes : nat_lt 0 (length (part (message_of chain).body)) ≡ goes Discard true (message_of chain)
  unfolding cells_of
  data-goes = gives (part (message_of chain).body)

  all-goes : (control : ControlMode) → drops_control control ≡ false → (not (is_refused control (message_of chain)) && nat_lt 0 (size_of (message_of chain))) ≡ goes control true (message_of chain)
  all-goes Refuse keeps = ap (λ n. not (is_refused Refuse (message_of chain)) && nat_lt 0 n) size-seen ∙ ap (λ b. not (is_refused Refuse (message_of chain)) && b) (gives (cells_of (message_of chain)))
  all-goes Data keeps = ap (λ n. nat_lt 0 n) size-seen ∙ gives (cells_of (message_of chain))
  all-goes Discard keeps = absurd (cc)

abbrev AreReadable : List (List Block) → Type 0
AreReadable q = AllByRecursion (λ chain. is_data_kind (block_at 0 chain).kind ≡ true) q

-- a read under RPROTDIS finds nothing where no message has a data part
pub none-found : (control : ControlMode) (q : List (List Block)) → AreReadable q → drops_control control ≡ true → is_none (length_on true true q) ≡ finds_none control (map message_of q)
none-found Refuse q all drops = absurd (cc)
none-found Data q all drops = absurd (cc)
none-found Discard [] all drops = refl
none-found Discard (chain ∷ q) all drops =
    at (length_of_part (data_blocks chain)) (none-found Discard q all.1 refl) ∙ ap (λ b. b && finds_none Discard (map message_of q)) (body-passed chain all.0)
  where
    at : (o : Option ℕ) → is_none (length_on true true q) ≡ finds_none Discard (map message_of q) → is_none (or_next true o (length_on true true q)) ≡ (is_none o && finds_none Discard (map message_of q))
    at None ih = ih
    at (Some n) ih = refl

-- it passes the first one over where that has none, and in the other modes none
pub first-left : (control : ControlMode) (q : List (List Block)) → AreReadable q → drops_control control ≡ true → is_none_left q ≡ false → is_none (length_on true false q) ≡ first_passed control (map message_of q)
first-left Refuse q all drops some = absurd (cc)
first-left Data q all drops some = absurd (cc)
first-left Discard [] all drops some = absurd (cc)
first-left Discard (chain ∷ q) all drops some = at (length_of_part (data_blocks chain)) ∙ body-passed chain all.0
  where
    at : (o : Option ℕ) → is_none (or_next false o (length_on true false q)) ≡ is_none o
    at None = refl
    at (Some n) = refl

pub first-kept : (control : ControlMode) (q : List (Message ℕ)) → drops_control control ≡ false → false ≡ first_passed control q
first-kept control [] keeps = refl
first-kept Refuse (m ∷ q) keeps = refl
first-kept Data (m ∷ q) keeps = refl
first-kept Discard (m ∷ q) keeps = absurd (cc)

-- where it has begun to give it takes the next one that has bytes of data
pub next-goes : (control : ControlMode) (q : List (List Block)) → AreReadable q → drops_control control ≡ true → nat_lt 0 (unwrap_or (length_on true true q) 0) ≡ first_goes control true (behind_passed control (map message_of q))
next-goes Refuse q all drops = absurd (cc)
next-goes Data q all drops = absurd (cc)
next-goes Discard [] all drops = refl
next-goes Discard (chain ∷ q) all drops =
    at (length_of_part (data_blocks chain)) (body-passed chain all.0) (ap (λ n. nat_lt 0 n) (body-size chain all.0) ∙ data-goes chain all.0) (next-goes Discard q all.1 refl)
  where
    behind : Bool → Bool
    behind b = first_goes Discard true (cond b (behind_passed Discard (map message_of q)) (message_of chain ∷ map message_of q))

    at : (o : Option ℕ) → is_none o ≡ is_passed Discard (message_of chain) → nat_lt 0 (unwrap_or o 0) ≡ goes Discard true (message_of chain)
        → nat_lt 0 (unwrap_or (length_on true true q) 0) ≡ first_goes Discard true (behind_passed Discard (map message_of q))
        → nat_lt 0 (unwrap_or (or_next true o (length_on true true q)) 0) ≡ first_goes Discard true (behind_passed Discard (map message_of (chain ∷ q)))
    at None passed size ih = ih ∙ ap (λ b. behind b) passed
    at (Some n) passed size ih = size ∙ ap (λ b. not b && goes Discard true (message_of chain)) passed ∙ ap (λ b. behind b) passed

-- in the other modes it takes the first one, where it doesn't fail at that and that has bytes
pub first-goes : (control : ControlMode) (q : List (List Block)) → AreReadable q → drops_control control ≡ false
    → (not (starts_refused control (map message_of q)) && nat_lt 0 (first_size (map message_of q))) ≡ first_goes control true (behind_passed control (map message_of q))
first-goes Refuse [] all keeps = refl
first-goes Data [] all keeps = refl
first-goes Refuse (chain ∷ q) all keeps = all-goes chain all.0 Refuse refl
first-goes Data (chain ∷ q) all keeps = all-goes chain all.0 Data refl
first-goes Discard q all keeps = absurd (cc)

-- how long the data part of the first one is
pub first-part : (q : List (List Block)) → AreReadable q → unwrap_or (length_on true false q) 0 ≡ first_data (map message_of q)
first-part [] all = refl
first-part (chain ∷ q) all = at (length_of_part (data_blocks chain)) ∙ body-size chain all.0
  where
    at : (o : Option ℕ) → unwrap_or (or_next false o (length_on true false q)) 0 ≡ unwrap_or o 0
    at None = refl
    at (Some n) = refl

-- whether a message is the one that a get asks for
pub wanted-seen : (chain : List Block) (wanted : Wanted) (p : Peek) → Peeked p chain → peek_wanted wanted p ≡ is_wanted wanted (message_of chain)
wanted-seen chain Any p seen = refl
wanted-seen chain High p seen = ap is_high_priority (seen.kind ∙ sym (kind-is chain))
wanted-seen chain (Band band) p seen =
    ap (λ k. is_high_priority k || nat_le band.0 p.band.0) (seen.kind ∙ sym (kind-is chain))
    ∙ ap (λ b. is_high_priority (message_of chain).kind || nat_le band.0 b) (seen.band ∙ sym (band-is chain))

-- and what the get is refused for
pub get-refused : (wanted : Wanted) (at_end : Bool) (q : List (Message ℕ)) → cond (gets_on wanted at_end q) None (Some Eagain) ≡ get_refusal wanted at_end q
get-refused wanted at_end [] = refl
get-refused wanted at_end (m ∷ q) = refl

-- where none is passed over a read finds none only where none is left
pub quick-none : (control : ControlMode) (q : List (List Block)) → drops_control control ≡ false → is_none_left q ≡ finds_none control (map message_of q)
quick-none Refuse [] none = refl
quick-none Refuse (chain ∷ q) none = refl
quick-none Data [] none = refl
quick-none Data (chain ∷ q) none = refl
quick-none Discard q none = absurd (cc)

-- a read that finds a message, and doesn't fail at the first one, takes one
pub goes-first : (control : ControlMode) (q : List (Message ℕ)) → finds_none control q ≡ false → starts_refused control q ≡ false → first_goes control false (behind_passed control q) ≡ true
goes-first control [] some goes_on = absurd (cc)
goes-first Refuse (m ∷ q) some goes_on = ap (λ b. not b && true) goes_on
goes-first Data (m ∷ q) some goes_on = refl
goes-first Discard (m ∷ q) some goes_on = at (is_passed Discard m) refl (λ more. goes-first Discard q more (passed-on q)) some
  where
    passed-on : (l : List (Message ℕ)) → starts_refused Discard l ≡ false
    passed-on [] = refl
    passed-on (x ∷ l) = refl

    at : (b : Bool) → is_passed Discard m ≡ b → (finds_none Discard q ≡ false → first_goes Discard false (behind_passed Discard q) ≡ true) → (b && finds_none Discard q) ≡ false → first_goes Discard false (cond b (behind_passed Discard q) (m ∷ q)) ≡ true
    at true is more some = more some
    at false is more some = ap (λ b. not b && goes Discard false m) is

-- so does one that has something to take
pub takes-first : (control : ControlMode) (n : ℕ) (q : List (Message ℕ)) → takes_none control n q ≡ false → first_goes control false (behind_passed control q) ≡ true
takes-first control n q is = (let both = neither (n == 0) (finds_none control q) (starts_refused control q) is in goes-first control q both.0 both.1)
  where
    neither : (a b c : Bool) → (a || (b || c)) ≡ false → (b ≡ false) × (c ≡ false)
    neither true b c is = absurd (cc)
    neither false true c is = absurd (cc)
    neither false false c is = (refl, is)
