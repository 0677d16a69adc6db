-- Lists of messages, changed at a place.
use Rattle.std.proofs.Common.{ℕ, ◌≡◌, ◌≤◌, ◌<◌, ◌+◌, true, false, not, cond, List, [], ◌∷◌, ◌++◌, length, take, drop, get_or, refl, sym, arith}
use Rattle.std.proofs.Math.ListN.{set}
use Rattle.std.specs.Prelude.{sum_by, ◌==◌}
use Rattle.std.proofs.lemmas.List.Sums.{sum_by-cons, sum_by-set, sum_by-remove, sum_by-insert, get_or-le-sum_by}
use Rattle.strm_blocks.specs.Message.{message_at, no_message, without_at, place_in, weigh, named}
use Rattle.strm_blocks.specs.declared.message.Message.{Message}

-- a message of a name is there where one is counted
pub place-within : (i : ℕ) (q : List Message) → 0 < sum_by (named i) q → place_in i q < length q
place-within i [] some = absurd (omega arith)
place-within i (m ∷ q) some =
    let s = sum_by-cons (named i) m q in
    elim (m.name == i) as (λ b. (cond b 1 0 + sum_by (named i) q ≡ sum_by (named i) (m ∷ q)) → cond (not b) (1 + place_in i q) 0 < length (m ∷ q)) [
      | true ↦ (λ e. omega arith)
      | false ↦ (λ e. let ih = place-within i q (omega arith) in omega arith)
    ] (sym s)

-- sums over a list without the message at a place, with one more, and with other blocks at a place
module _ (g : Message → ℕ) where
  pub sum-without : (q : List Message) (p : ℕ) → p < length q → sum_by g (without_at p q) + g (message_at p q) ≡ sum_by g q
  sum-without q p within = sum_by-remove g q p no_message within

  pub sum-put : (q : List Message) (p : ℕ) (m : Message) → sum_by g (take p q ++ ((m ∷ []) ++ drop p q)) ≡ sum_by g q + g m
  sum-put q p m = sum_by-insert g q p m

  pub sum-set : (q : List Message) (p : ℕ) (m : Message) → p < length q → sum_by g (set q p m) + g (message_at p q) ≡ sum_by g q + g m
  sum-set q p m within = sum_by-set g q p m no_message within

  pub sum-first : (q : List Message) → 0 < length q → g (message_at 0 q) + sum_by g (drop 1 q) ≡ sum_by g q
  sum-first [] some = absurd (omega arith)
  sum-first (m ∷ q) some = sym (sum_by-cons g m q)

  -- sums over all messages, where one list changes
  pub weigh-list : (lists : List (List Message)) (hand : List Message) (k : ℕ) (q : List Message) → k < length lists → weigh g (set lists k q) hand + sum_by g (get_or lists k []) ≡ weigh g lists hand + sum_by g q
  weigh-list lists hand k q within = let s = sum_by-set (λ q. sum_by g q) lists k q [] within in omega arith

-- a list counted by ones
pub ones : (q : List Message) → sum_by (λ m. 1) q ≡ length q
ones [] = refl
ones (m ∷ q) = let ih = ones q in omega (arith, sum_by-cons (λ (m : Message). 1) m q)

-- a bound on each message bounds the sums
pub sum-le : (f g h : Message → ℕ) → ((m : Message) → f m ≤ g m + h m) → (q : List Message) → sum_by f q ≤ sum_by g q + sum_by h q
sum-le f g h each [] = omega arith
sum-le f g h each (m ∷ q) = let ih = sum-le f g h each q in let e = each m in omega (arith, sum_by-cons f m q, sum_by-cons g m q, sum_by-cons h m q)

sums-le : (f g h : Message → ℕ) → ((m : Message) → f m ≤ g m + h m) → (lists : List (List Message)) → sum_by (λ q. sum_by f q) lists ≤ sum_by (λ q. sum_by g q) lists + sum_by (λ q. sum_by h q) lists
sums-le f g h each [] = omega arith
sums-le f g h each (q ∷ lists) = let ih = sums-le f g h each lists in let e = sum-le f g h each q in omega (arith, sum_by-cons (λ q. sum_by f q) q lists, sum_by-cons (λ q. sum_by g q) q lists, sum_by-cons (λ q. sum_by h q) q lists)

pub weigh-le : (f g h : Message → ℕ) → ((m : Message) → f m ≤ g m + h m) → (lists : List (List Message)) (hand : List Message) → weigh f lists hand ≤ weigh g lists hand + weigh h lists hand
weigh-le f g h each lists hand = let a = sums-le f g h each lists in let b = sum-le f g h each hand in omega arith

-- a message in hand weighs no more than all
pub weigh-in_hand : (g : Message → ℕ) (lists : List (List Message)) (hand : List Message) (p : ℕ) → p < length hand → g (message_at p hand) ≤ weigh g lists hand
weigh-in_hand g lists hand p within = let h = get_or-le-sum_by g hand p no_message within in omega arith
