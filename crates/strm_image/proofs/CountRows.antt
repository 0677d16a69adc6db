-- What the messages of streams hold is what the ledgers count.
use Rattle.strm_image.proofs.Prelude.{◌≡◌, ◌∙◌, ℕ, suc, ◌+◌, true, ◌&&◌, List, [], ◌∷◌, length, refl, sym, ap, arith, ne_eqb, flat_map-cons}
use Rattle.strm_image.proofs.Prelude.{sum_by-append, sum_by-cons}
use Rattle.strm_image.specs.Prelude.{MasterToSlave, SlaveToMaster, Way, Up, Down, Message, cells_of, is_none_left, messages_at, queued, Standing}
use Rattle.strm_image.specs.Prelude.{State}
use Rattle.std.proofs.Common.{nat_eq}
use Rattle.std.specs.List.{count_by, flat_map, sum_by}
use Rattle.strm_types.specs.Message.{weight_of}
use Rattle.strm_types.specs.Queue.{weight}
use Rattle.strm_image.specs.Counts.{balances, cells_at, counted_in, down_cells, up_cells}
use Rattle.strm_image.specs.Image.{Account, Imaged, are_balanced, laid_on}
use Rattle.strm_image.specs.Loads.{counted_of}

count_all : (xs : List ℕ) → count_by (λ c. true) xs ≡ length xs
count_all [] = refl
count_all (x ∷ xs) =
    let one : count_by (λ c. true) (x ∷ xs) ≡ 1 + count_by (λ c. true) xs = sum_by-cons (λ (c : ℕ). 1) x xs in
    let next : 1 + length xs ≡ suc (length xs) = omega arith in
    one ∙ (ap (λ n. 1 + n) (count_all xs) ∙ next)

weight_counted : (ms : List (Message ℕ)) → weight (λ c. true) ms ≡ counted_in ms
unfolding weight_of counted_of
weight_counted [] = refl
weight_counted (m ∷ ms) = rw (sum_by-cons (weight_of (λ c. true)) m ms, sum_by-cons counted_of m ms, count_all (cells_of m), weight_counted ms) refl

counted_flat : (way : Way) (ps : List (Standing ℕ)) → counted_in (flat_map (messages_at way) ps) ≡ sum_by (cells_at way) ps
counted_flat way [] = refl
counted_flat way (p ∷ ps) = rw (flat_map-cons (messages_at way) p ps, sum_by-append counted_of (messages_at way p) (flat_map (messages_at way) ps), counted_flat way ps) (sym (sum_by-cons (cells_at way) p ps))

weight_at : (way : Way) (ps : List (Standing ℕ)) → weight (λ c. true) (flat_map (messages_at way) ps) ≡ sum_by (cells_at way) ps
weight_at way ps = weight_counted (flat_map (messages_at way) ps) ∙ counted_flat way ps

four_parts : (a b c d e f g h : ℕ) → a ≡ e → b ≡ f → c ≡ g → d ≡ h → (((0 + a) + b) + c) + d ≡ (e + f) + (g + h)
four_parts a b c d e f g h p q r s = omega (arith, p, q, r, s)

pub queued_from_master : (s : State ℕ) → queued MasterToSlave s ≡ down_cells (laid_on s.ends.master) + up_cells (laid_on s.ends.slave)
queued_from_master s = four_parts _ _ _ _ _ _ _ _ (weight_at Down s.ends.master.modules) (weight_counted s.ends.master.driver.queue.messages) (weight_counted s.ends.slave.head.queue.messages) (weight_at Up s.ends.slave.modules)

pub queued_from_slave : (s : State ℕ) → queued SlaveToMaster s ≡ down_cells (laid_on s.ends.slave) + up_cells (laid_on s.ends.master)
queued_from_slave s = four_parts _ _ _ _ _ _ _ _ (weight_at Down s.ends.slave.modules) (weight_counted s.ends.slave.driver.queue.messages) (weight_counted s.ends.master.head.queue.messages) (weight_at Up s.ends.master.modules)

abbrev pub account_from_master : Imaged → Account
account_from_master x = record { book = x.state.books.master; fates = x.fates.master }

abbrev pub account_from_slave : Imaged → Account
account_from_slave x = record { book = x.state.books.slave; fates = x.fates.slave }

pub balanced_is : (x : Imaged) → are_balanced x ≡ (balances (account_from_master x) (laid_on x.state.ends.master) (laid_on x.state.ends.slave) && balances (account_from_slave x) (laid_on x.state.ends.slave) (laid_on x.state.ends.master))
balanced_is x = rw (queued_from_master x.state, queued_from_slave x.state) refl

-- no message is left exactly where they were counted as none
pub none_left : {A : Type 0} (xs : List A) (n : ℕ) → length xs ≡ n → nat_eq n 0 ≡ is_none_left xs
none_left [] n e = rw (sym e) refl
none_left (x ∷ xs) n e =
    let long : suc (length xs) ≡ n = e in
    let other : n ≡ 0 → ⊥ = λ is. omega (arith, long, is) in
    ne_eqb n 0 other
