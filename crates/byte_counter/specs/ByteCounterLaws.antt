-- What a counter of bytes owes: what it is set to are eight bytes, and it counts as many of any cells.
use Rattle.std.proofs.Common.{ℕ, zero, suc, ◌≡◌, ◌<◌, false, true, List, length, map, refl, ap, arith, sym, ◌∙◌}
use Rattle.std.specs.Prelude.{Option, None, Some, option_map, ◌==◌}
use Rattle.std.specs.List.{AllByRecursion}
use Rattle.std.specs.Int.{byte_at, bytes_high_first}
use Rattle.std.proofs.lemmas.Bool.Decides.{nat_tests}
use Rattle.std.proofs.lemmas.List.{length-map}
use Rattle.strm_types.specs.declared.names.ModuleName.TheVariants as modules
use Rattle.strm_types.specs.declared.spots.Spot.{Spot}
use Rattle.strm_types.specs.Cells.{AreCells, Cells, plain}
use Rattle.strm_types.specs.Message.{Message, map_message, part}
use Rattle.strm_types.specs.Names.{have_queues}
use Rattle.strm_types.specs.Origins.{map_acted}
use Rattle.strm_types.specs.Owns.{Own}
use Rattle.strm_laws.specs.Behaviours.{GoodOwn, OwnPut, passes_all}
use Rattle.strm_own.proofs.OwnPassing.{sets-put}
use Rattle.byte_counter.specs.ByteCounter.{byte_counter_number, byte_counter_puts, counted_on, data_length, none_counted}

-- bytes of a number are below 256
byte-below : (i n : ℕ) → byte_at i n < 256
byte-below zero n = omega arith
byte-below (suc i) n = omega arith

all-below : (k n : ℕ) → AllByRecursion (λ b. b < 256) (bytes_high_first k n)
all-below zero n = tt
all-below (suc k) n = (byte-below k n, all-below k n)

pub byte_counter-good : (n : ℕ) → (n == byte_counter_number) ≡ true → GoodOwn (record { number = n; settings = none_counted })
byte_counter-good n is = record { number = grind (arith, nat_tests); few = omega arith; bytes = all-below 8 0 }

pub byte_counter-put : {C : Type 0} (cells : Cells C) (here : Spot) (m : Message C) (x : Own)
    → OwnPut false cells here m x (byte_counter_puts cells here m x)
byte_counter-put cells here m x = sets-put cells here m x (counted_on x.settings (data_length m)) (omega arith) (all-below 8 _)

-- as many cells stand for as many bytes
mapped-length : {C : Type 0} (f : C → ℕ) (o : Option (List C)) → length (part (option_map (map f) o)) ≡ length (part o)
mapped-length f None = refl
mapped-length f (Some cells) = length-map cells f

pub byte_counter-forgets : {C : Type 0} (cells : Cells C) → AreCells cells → (here : Spot) (m : Message C) (x : Own)
    → byte_counter_puts plain here (map_message cells.byte m) x ≡ map_acted cells.byte (λ (o : Own). o) (byte_counter_puts cells here m x)
unfolding map_message
byte_counter-forgets cells are here m x =
    ap (λ n. passes_all here (map_message cells.byte m) (record x { settings = counted_on x.settings n })) (mapped-length cells.byte m.body)

-- and it has no queues
pub byte_counter-queues : (n : ℕ) → (n == byte_counter_number) ≡ true → have_queues (modules.Own n) ≡ true → false ≡ true
byte_counter-queues n is has = let e : n ≡ byte_counter_number = grind (arith, nat_tests) in ap (λ m. have_queues (modules.Own m)) (sym e) ∙ has
