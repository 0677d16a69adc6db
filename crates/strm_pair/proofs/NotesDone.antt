-- Notes that are done one after the other.
use Rattle.strm_pair.proofs.Prelude.{◌≡◌, ◌≤◌, ◌∙◌, ◌==◌, ℕ, true, List, [], ◌∷◌, length, refl, ap, subst, sym, arith, nat_tests, Option}
use Rattle.strm_pair.specs.Prelude.{Place, QueueName, Side, Way, Note, StoreValue, earlier_at, noted}
use Rattle.strm_types.specs.Names.{enable_found}
use Rattle.strm_types.specs.declared.spots.Note.TheVariants.{Enable, Room}
use Rattle.strm_pair.specs.declared.streams.Streams.{Streams}
use Rattle.strm_pair.specs.Nearest.{noted_on, queue_noted}
use Rattle.strm_pair.specs.Pairs.{state_in}
use Rattle.strm_pair.proofs.Enabling.{noted-long}

-- The first one is done, and the rest behind it: the nearest earlier queues stay, as the streams do.
pub noted-more : (s : StoreValue) (side : Side) (place : Option Place) (at : ℕ) (n : Note) (ns notes : List Note) (p q r : Streams) → notes ≡ n ∷ ns
    → q ≡ noted_on s side place at (n ∷ []) p → r ≡ noted_on s side place at ns q → r ≡ noted_on s side place at notes p
noted-more s side place at (Enable way) ns notes p q r is first rest =
    rest ∙ ap (noted_on s side place at ns) first ∙ ap (λ all. noted_on s side place at all p) (sym is)
noted-more s side place at (Room way) ns notes p q r is first rest =
    rest ∙ ap (noted_on s side place at ns) first ∙ ap (λ all. noted_on s side place at all p) (sym is)

-- and where none is behind it, that is all
pub noted-last : (s : StoreValue) (side : Side) (place : Option Place) (at : ℕ) (n : Note) (ns notes : List Note) (p q : Streams) → notes ≡ n ∷ ns
    → (length ns == 0) ≡ true → q ≡ noted_on s side place at (n ∷ []) p → q ≡ noted_on s side place at notes p
noted-last s side place at n [] notes p q is none first = first ∙ ap (λ all. noted_on s side place at all p) (sym is)
noted-last s side place at n (x ∷ ns) notes p q is none first = absurd (grind (arith, nat_tests))

-- where there is room for all, there is for the first one, and behind it for the rest
pub noted-front : (s : StoreValue) (side : Side) (place : Option Place) (at : ℕ) (n : Note) (ns notes : List Note) (p : Streams) → notes ≡ n ∷ ns
    → length (noted_on s side place at notes p).enabled ≤ 14 → length (noted_on s side place at (n ∷ []) p).enabled ≤ 14
noted-front s side place at (Enable way) ns notes p is few =
    let all = subst (λ all. length (noted_on s side place at all p).enabled ≤ 14) is few in
    let earlier = earlier_at side at (state_in s p) in
    omega (arith, all, noted-long side place earlier ns (noted side place earlier (Enable way ∷ []) p.enabled))
noted-front s side place at (Room way) ns notes p is few =
    let all = subst (λ all. length (noted_on s side place at all p).enabled ≤ 14) is few in
    let earlier = earlier_at side at (state_in s p) in
    omega (arith, all, noted-long side place earlier ns (noted side place earlier (Room way ∷ []) p.enabled))

pub noted-rest : (s : StoreValue) (side : Side) (place : Option Place) (at : ℕ) (n : Note) (ns notes : List Note) (p q : Streams) → notes ≡ n ∷ ns
    → q ≡ noted_on s side place at (n ∷ []) p → length (noted_on s side place at notes p).enabled ≤ 14
    → length (noted_on s side place at ns q).enabled ≤ 14
noted-rest s side place at n ns notes p q is first few =
    subst (λ (r : Streams). length r.enabled ≤ 14) (sym (noted-more s side place at n ns notes p q (noted_on s side place at ns q) is first refl)) few

-- beside the streams, by the nearest earlier queues that a place had
pub noted-first : (side : Side) (place : Option Place) (earlier : Way → Option QueueName) (n : Note) (ns : List Note) (names : List QueueName)
    → noted side place earlier (n ∷ ns) names ≡ noted side place earlier ns (enable_found (queue_noted side place earlier n) names)
noted-first side place earlier (Enable way) ns names = refl
noted-first side place earlier (Room way) ns names = refl
