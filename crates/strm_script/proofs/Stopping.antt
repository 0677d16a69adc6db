-- A turn that moved nothing, one of a queue that belongs to no module, and one that got to the end of its message lead to what a turn leads
-- to that goes to the end of the first message.
use Rattle.strm_script.proofs.Prelude.{◌≡◌, ℕ, zero, suc, ◌+◌, ◌-◌, ◌*◌, ◌≤◌, Bool, true, false, cond, List, [], ◌∷◌, map, Option, None, Some}
use Rattle.strm_script.proofs.Prelude.{is_some, refl, sym, ap, subst, ◌∙◌, arith, eq-eqb, nat_tests}
use Rattle.strm_script.specs.Prelude.{Turn, Moved, Blocked, Idle, ModuleName, Place, Head, Driver, QueueName, Side, Master, Slave, Way, Up, Down}
use Rattle.strm_script.specs.Prelude.{plain}
use Rattle.strm_script.specs.Prelude.{Message, place_named, State, Stream, stream, TurnOutcome, turned, whole_turn, first_at}
use Rattle.strm_types.specs.declared.names.Place.TheVariants as places
use Rattle.std.proofs.Common.{min, slice_index_or}
use Rattle.std.specs.Prelude.{max, nat_lt}
use Rattle.strm_types.specs.declared.spots.Asks.{Asks}
use Rattle.strm_types.specs.declared.spots.Asks.TheVariants as asked
use Rattle.strm_types.specs.declared.spots.Spot.{Spot}
use Rattle.strm_types.specs.Input.{input_begins, is_data, passes, stages, stages_done, treats}
use Rattle.strm_types.specs.Ldterms as ldterms
use Rattle.strm_types.specs.ModuleQueues.{at_place}
use Rattle.strm_types.specs.Owns.{Own}
use Rattle.strm_types.specs.OwnStands.{own_served, own_serves}
use Rattle.strm_types.specs.Standings.{QueuePair, messages_at, stood, way_queue}
use Rattle.strm_laws.proofs.NoOwn.{none as no_own}
use Rattle.strm_laws.specs.Behaviours.{own_by}
use Rattle.strm_laws.specs.ModuleTurns.{Calls, again_at, asked_turn, calls, made_below, moved_by, moved_on, moved_within, turned_named, turned_there, waits_there, whole_module}
use Rattle.strm_types.specs.OutputTurns.{output_serves}
use Rattle.strm_laws.specs.Past.{has_room_past}
use Rattle.strm_types.specs.Queue.{left_with, first_size}
use Rattle.strm_laws.specs.Stacked.{Module, OfLdterm, OfOwn, Standing, module_asks, module_rests, module_serves}
use Rattle.strm_laws.specs.TurnOutcomes.{stayed_put}
use Rattle.strm_laws.specs.Turns.{turned_at}
use Rattle.strm_types.specs.Names.{without}
use Rattle.strm_types.specs.LdtermStands.{disciplined}
use Rattle.strm_pair.specs.Named.{at_found, messages_named}
use Rattle.strm_script.specs.ScriptRun.{Supply, Enough, Within, is_enough, only, reach, told_of, turn_to}

-- a turn that may treat no byte is at its end after one call
module _ (side : Side) (at : ℕ) where
  abbrev there : Way → Spot
  there way = record { side = side; at = at; way = way }

  treats-none : (way : Way) (made : ℕ) (p : ldterms.Discipline ℕ) → (treats plain (there way) 0 made p).again ≡ false
  treats-none way made p =
      let none : 3 * 0 - stages_done p.stage ≡ 0 = omega arith in
      ap (λ n. is_some (stages plain (there way) n made p).state.in_work) none

  output-once : (made : ℕ) (ms : List (Message ℕ)) (p : ldterms.Discipline ℕ) → (output_serves plain (there Down) (Some 0) made ms p).again ≡ false
  output-once made [] p = refl
  output-once made (m ∷ rest) p = refl

  input-once : (made : ℕ) (ms : List (Message ℕ)) (p : ldterms.Discipline ℕ) → (input_begins plain (there Up) (Some 0) made ms p).again ≡ false
  input-once made [] p = refl
  input-once made (m ∷ rest) p = by (is_data m.kind)
    where
      by : (is_it : Bool) → (cond is_it (treats plain (there Up) 0 made (record p { read_queue = left_with rest p.read_queue; in_work = Some m })) (passes plain (there Up) Up m rest p)).again ≡ false
      by true = treats-none Up made (record p { read_queue = left_with rest p.read_queue; in_work = Some m })
      by false = refl

  -- one of a user's own treats one message
  own-once : (way : Way) (o : Own) (queues : Option (QueuePair ℕ)) → (own_serves (own_by no_own plain) (there way) (record { part = o; queues = queues })).again ≡ false
  own-once way o None = refl
  own-once way o (Some pair) = by (way_queue way pair).messages
    where
      by : (ms : List (Message ℕ)) → (own_served (own_by no_own plain) (there way) (record { part = o; queues = Some pair }) pair ms).again ≡ false
      by [] = refl
      by (m ∷ rest) = refl

  serves-once : (way : Way) (made : ℕ) (p : Standing ℕ) → (module_serves no_own plain (there way) made false (Some 0) p).again ≡ false
  serves-once way made p = by way p.part
    where
      by : (way : Way) (part : Module ℕ) → (module_serves no_own plain (there way) made false (Some 0) (stood part p.queues)).again ≡ false
      by Down (OfLdterm l) = let d = disciplined l p.queues in output-once made d.write_queue.messages d
      by Up (OfLdterm l) = let d = disciplined l p.queues in input-once made d.read_queue.messages d
      by way (OfOwn o) = own-once way o p.queues
      by way other = refl

  none-among : (say : Standing ℕ → Bool) → ((p : Standing ℕ) → say p ≡ false) → (i : ℕ) (ps : List (Standing ℕ)) → slice_index_or (map say ps) i false ≡ false
  none-among say none i [] = refl
  none-among say none zero (p ∷ ps) = none p
  none-among say none (suc i) (p ∷ ps) = none-among say none i ps

  ends-where : (again : Bool) (one another : Calls ℕ) → again ≡ false → another.ended ≡ true → (cond again one another).ended ≡ true
  ends-where true one another once ended = absurd cc
  ends-where false one another once ended = ended

  ends-at-once : (way : Way) (s : State ℕ) → (calls no_own plain (there way) (3 * 0 + 1) false 0 s).ended ≡ true
  ends-at-once way s =
      ends-where (again_at no_own plain (there way) (made_below side s) false 0 (stream side s).modules) _ _
      (none-among (λ p. (module_serves no_own plain (there way) (made_below side s) false (Some 0) p).again) (serves-once way (made_below side s)) (at - 1) (stream side s).modules) refl

  moves-where : (ended : Bool) (one another : TurnOutcome ℕ) → ended ≡ true → (cond ended one another).turn ≡ one.turn
  moves-where true one another ended = refl
  moves-where false one another ended = absurd cc

  -- so it moved, if no bytes
  moves-none : (way : Way) (name : QueueName) (s : State ℕ) → (moved_on no_own plain (there way) name 0 s).turn ≡ Moved (calls no_own plain (there way) (3 * 0 + 1) false 0 s).bytes
  moves-none way name s = moves-where (calls no_own plain (there way) (3 * 0 + 1) false 0 s).ended _ _ (ends-at-once way s)

-- an outcome that isn't told as one that moved
abbrev Stays : TurnOutcome ℕ → Type 0
Stays outcome = (n : ℕ) → outcome.turn ≡ Moved n → ⊥

stays-where : (b : Bool) (one another other : TurnOutcome ℕ) → (Stays one → one ≡ another) → Stays (cond b one other) → cond b one other ≡ cond b another other
stays-where true one another other same stays = same stays
stays-where false one another other same stays = refl

-- such a turn of a module's queue asked for what holds it back, or found nothing
module _ (name : QueueName) (turn another : Turn) (s : State ℕ) (none : moved_by turn ≡ 0) where
  not-within : (at : ℕ) → Stays (moved_within no_own plain (there name.side at name.way) name turn s) → ⊥
  not-within at stays =
      let here = there name.side at name.way in
      let first = at_place (λ p. first_size (messages_at name.way p)) 0 at (stream name.side s).modules in
      let least : min (moved_by turn) first ≡ 0 = omega (arith, none) in
      stays _ (ap (λ (n : ℕ). (moved_on no_own plain here name n s).turn) least ∙ moves-none name.side at name.way name s)

  asked-same : (at : ℕ) (asks : Asks) → Stays (asked_turn no_own plain (there name.side at name.way) asks name turn s)
      → asked_turn no_own plain (there name.side at name.way) asks name turn s
      ≡ asked_turn no_own plain (there name.side at name.way) asks name another s
  asked-same at asked.Empty stays = refl
  asked-same at asked.Held stays = refl
  asked-same at asked.Free stays = absurd (not-within at stays)
  asked-same at (asked.Room band) stays =
      stays-where (has_room_past name.side name.way at band.0 s) _ _ _ (λ stays. absurd (not-within at stays)) stays

  named-same : (place : Option ℕ) → Stays (turned_named no_own plain name turn s place)
      → turned_named no_own plain name turn s place ≡ turned_named no_own plain name another s place
  named-same None stays = refl
  named-same (Some at) stays =
      let ps = (stream name.side s).modules in
      stays-where (at_place module_rests false at ps) _ _ _ (asked-same at (at_place (module_asks no_own plain name.way) asked.Empty at ps)) stays

  stays-same : (place : Place) → Stays (turned_at no_own plain place name turn s)
      → turned_at no_own plain place name turn s ≡ turned_at no_own plain place name another s
  stays-same Head stays = refl
  stays-same Driver stays = refl
  stays-same (places.Module owner) stays = named-same (place_named name.place (stream name.side s).modules) stays

-- one that goes to the end of its message leads to the same by any number of bytes that gets so far
module _ (side : Side) (at : ℕ) (way : Way) (name : QueueName) (s : State ℕ) where
  abbrev first_there : ℕ
  first_there = at_place (λ p. first_size (messages_at way p)) 0 at (stream side s).modules

  module _ (n m : ℕ) (same : min (max 1 n) first_there ≡ min (max 1 m) first_there) where
    asked-alike : (asks : Asks) → asked_turn no_own plain (there side at way) asks name (Moved n) s ≡ asked_turn no_own plain (there side at way) asks name (Moved m) s
    asked-alike asked.Empty = refl
    asked-alike asked.Held = refl
    asked-alike asked.Free = ap (λ (k : ℕ). moved_on no_own plain (there side at way) name k s) same
    asked-alike (asked.Room band) =
        ap (λ (k : ℕ). cond (has_room_past side way at band.0 s) (moved_on no_own plain (there side at way) name k s) (waits_there band.0 (there side at way) s)) same

    there-alike : turned_there no_own plain (there side at way) name (Moved n) s ≡ turned_there no_own plain (there side at way) name (Moved m) s
    there-alike =
        let ps = (stream side s).modules in
        ap (λ (o : TurnOutcome ℕ). cond (at_place module_rests false at ps) o (stayed_put Blocked s)) (asked-alike (at_place (module_asks no_own plain way) asked.Empty at ps))

abbrev named : ModuleName → Side → Way → QueueName
named owner side way = record { side = side; place = places.Module owner; way = way }

-- what the first message of the one at a place has
first-among : (way : Way) (i : ℕ) (ps : List (Standing ℕ)) → first_size (slice_index_or (map (messages_at way) ps) i []) ≡ slice_index_or (map (λ p. first_size (messages_at way p)) ps) i 0
first-among way i [] = refl
first-among way zero (p ∷ ps) = refl
first-among way (suc i) (p ∷ ps) = first-among way i ps

-- a turn for as many bytes as there are goes to the end
goes-past : (n size : ℕ) → size ≤ n → min (max 1 n) size ≡ size
goes-past zero size whole = omega (arith, whole)
goes-past (suc n) size whole = omega (arith, whole)

goes-whole : (owner : ModuleName) (side : Side) (way : Way) (n : ℕ) (s : State ℕ) (t : Stream ℕ) → (stream side s).modules ≡ t.modules → first_size (messages_named (places.Module owner) way t.modules) ≤ n
    → turned_named no_own plain (named owner side way) (whole_module (places.Module owner) way t) s (place_named (places.Module owner) t.modules) ≡ turned_named no_own plain (named owner side way) (Moved n) s (place_named (places.Module owner) t.modules)
goes-whole owner side way n s t is whole = by (place_named (places.Module owner) t.modules) refl
  where
    say : Standing ℕ → ℕ
    say p = first_size (messages_at way p)

    by : (found : Option ℕ) → place_named (places.Module owner) t.modules ≡ found
        → turned_named no_own plain (named owner side way) (whole_module (places.Module owner) way t) s (place_named (places.Module owner) t.modules) ≡ turned_named no_own plain (named owner side way) (Moved n) s (place_named (places.Module owner) t.modules)
    by None none = rw none refl
    by (Some at) found =
        let fits = subst (λ o. first_size (at_found (messages_at way) [] t.modules o) ≤ n) found whole in
        let size = first-among way (at - 1) t.modules in
        let first : first_there side at way (named owner side way) s ≡ at_place say 0 at t.modules = ap (λ ps. at_place say 0 at ps) is in
        let there = first_there side at way (named owner side way) s in
        let all : there ≤ at_place say 0 at t.modules = omega (arith, first) in
        let far : there ≤ n = omega (arith, fits, size, first) in
        rw found (there-alike side at way (named owner side way) s (at_place say 0 at t.modules) n (goes-past (at_place say 0 at t.modules) there all ∙ sym (goes-past n there far)))

-- what an account says of a turn that was answered so
pub record Accounted (turn : Turn) (name : QueueName) (s : State ℕ) : Type 0 where
  pub supply : Supply
  pub enough : is_enough supply ≡ true
  pub told : told_of supply name s ≡ reach name.place (first_at name s) turn
  pub goes : turned no_own plain name (turn_to (reach name.place (first_at name s) turn) name s) s ≡ turned no_own plain name turn s

-- it stopped, or it didn't
only-same : (n : ℕ) (b : Bool) → only n (cond b (Some n) None) ≡ cond b (Some n) None
only-same n true = rw (eq-eqb n n refl) refl
only-same n false = refl

only-at : (n : ℕ) (place : Place) (size : ℕ) → only n (reach place size (Moved n)) ≡ reach place size (Moved n)
only-at n Head size = refl
only-at n Driver size = refl
only-at n (places.Module owner) size = only-same n (nat_lt n size)

past-end : (n size : ℕ) → nat_lt n size ≡ false → size ≤ n
past-end n size is = grind (arith, nat_tests)

-- it went so far, or it goes as far as any
goes-far : (owner : ModuleName) (side : Side) (way : Way) (n : ℕ) (s : State ℕ) → (b : Bool) → nat_lt n (first_at (named owner side way) s) ≡ b
    → turned no_own plain (named owner side way) (turn_to (cond b (Some n) None) (named owner side way) s) s ≡ turned no_own plain (named owner side way) (Moved n) s
goes-far owner side way n s true is = refl
goes-far owner Master way n s false is =
    goes-whole owner Master way n (record s { enabled = without (named owner Master way) s.enabled }) s.ends.master refl (past-end n _ is)
goes-far owner Slave way n s false is =
    goes-whole owner Slave way n (record s { enabled = without (named owner Slave way) s.enabled }) s.ends.slave refl (past-end n _ is)

goes-so : (n : ℕ) (side : Side) (place : Place) (way : Way) (s : State ℕ) →
    let name : QueueName = record { side = side; place = place; way = way } in
    turned no_own plain name (turn_to (reach place (first_at name s) (Moved n)) name s) s ≡ turned no_own plain name (Moved n) s
goes-so n side Head way s = refl
goes-so n side Driver way s = refl
goes-so n side (places.Module owner) way s = goes-far owner side way n s (nat_lt n (first_at (named owner side way) s)) refl

blocked-reach : (place : Place) (size : ℕ) → reach place size Blocked ≡ None
blocked-reach Head size = refl
blocked-reach Driver size = refl
blocked-reach (places.Module owner) size = refl

idle-reach : (place : Place) (size : ℕ) → reach place size Idle ≡ None
idle-reach Head size = refl
idle-reach Driver size = refl
idle-reach (places.Module owner) size = refl

-- it moved nothing
stayed : (turn : Turn) (name : QueueName) (s : State ℕ) → moved_by turn ≡ 0 → Stays (turned no_own plain name turn s) → reach name.place (first_at name s) turn ≡ None → Accounted turn name s
stayed turn name s none stays reached = record {
  supply = Enough;
  enough = refl;
  told = sym reached;
  goes =
      ap (λ told. turned no_own plain name (turn_to told name s) s) reached
      ∙ sym (stays-same name turn (whole_turn name s) (record s { enabled = without name s.enabled }) none name.place stays);
}

pub accounted : (turn : Turn) (name : QueueName) (s : State ℕ) → (turned no_own plain name turn s).turn ≡ turn → Accounted turn name s
accounted (Moved n) name s answered = record {
  supply = Within n;
  enough = refl;
  told = ap (λ turn. only n (reach name.place (first_at name s) turn)) answered ∙ only-at n name.place (first_at name s);
  goes = goes-so n name.side name.place name.way s;
}
accounted Blocked name s answered = stayed Blocked name s refl (λ n moved. let no : Blocked ≡ Moved n = sym answered ∙ moved in cc) (blocked-reach name.place (first_at name s))
accounted Idle name s answered = stayed Idle name s refl (λ n moved. let no : Idle ≡ Moved n = sym answered ∙ moved in cc) (idle-reach name.place (first_at name s))
