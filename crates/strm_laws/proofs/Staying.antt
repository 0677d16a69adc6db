-- An M_DATA or M_PROTO that is put somewhere goes on as one, the same way on the same side, or stays there. Puts open and close no side.
use Rattle.strm_laws.proofs.Prelude.{ℕ, zero, suc, ◌≡◌, ◌<◌, ◌-◌, Bool, true, false, cond, List, [], ◌∷◌, refl, sym, ap, subst, ◌∙◌, arith, map, ◌≤◌}
use Rattle.strm_laws.proofs.Prelude.{◌+◌, ◌&&◌, ◌==◌, nat_le, not}
use Rattle.strm_laws.specs.Prelude.{MsgKind, Data, Proto, MODULES, Side, Master, Slave, Way, Up, Down, Across, Spot, plain, Acted, Parcel, Took}
use Rattle.strm_laws.specs.Prelude.{toward, crosses, driver_put, put_across, put_down, taken_in, is_flush, Head, is_doubled, obeyed}
use Rattle.strm_laws.specs.Prelude.{waits_for_readers, Message, has_parts, is_held, act_among, is_closed, is_open, same_side, same_way, Queue, Within}
use Rattle.strm_laws.specs.Prelude.{next_at, cost_of, name_does, Shape, Held, shape_by, ModuleName}
use Rattle.strm_types.specs.declared.names.ModuleName.TheVariants as names
use Rattle.strm_types.specs.Tables.{name_holds}
use Rattle.strm_laws.specs.Behaviours.{Behaviour}
use Rattle.strm_laws.specs.Earlier.{driver_place, modules_on}
use Rattle.std.specs.List.{list_all}
use Rattle.strm_laws.specs.Pair.{IsKeptAhead, IsOpenAhead}
use Rattle.strm_laws.specs.Puts.{SameButMade, across_of, made_above, passed_up, put_at_driver, put_at_head, put_at_module, put_behind, put_below, put_in}
use Rattle.strm_laws.specs.StackCosts.{stands_of, stands_on}
use Rattle.strm_laws.specs.Stacked.{Standing, module_puts, module_name}
use Rattle.strm_laws.specs.State.{State, stream}
use Rattle.strm_laws.proofs.PutParts.{puts-hold}
use Rattle.strm_laws.proofs.PutsKeep.{same-itself, same-stays}
use Rattle.strm_laws.proofs.StackStays.{puts-stand}
use Rattle.strm_laws.proofs.LawfulKinds.{puts-lawfully}

-- What is sent on from a spot is nothing, or one M_DATA or M_PROTO on the same way of the same side, below the head where it goes down.
abbrev pub SentOn : Spot → List (Parcel ℕ) → Type 0
SentOn to [] = Unit {0}
SentOn to (x ∷ []) = (is_held x.message.kind ≡ true) × (x.to.side ≡ to.side) × (x.to.way ≡ to.way) × (x.to.way ≡ Down → 0 < x.to.at)
SentOn to (x ∷ y ∷ more) = ⊥

-- what is ahead is kept where it was
open-ahead : (way : Way) (side : Side) (s t : State ℕ) → ((sd : Side) → (stream sd t).opened ≡ (stream sd s).opened) → IsOpenAhead way side s
    → IsOpenAhead way side t
open-ahead Up side s t same kept = ap is_open (same side) ∙ kept
open-ahead Down side s t same kept = ap is_closed (same Master) ∙ kept

pub kept-ahead : (way : Way) (side : Side) (s t : State ℕ) → ((sd : Side) → (stream sd t).opened ≡ (stream sd s).opened) → stands_of t ≡ stands_of s
    → IsKeptAhead way side s → IsKeptAhead way side t
kept-ahead way side s t same stand ahead = record {
  opened = open-ahead way side s t same ahead.opened;
  kept = ap (λ all. list_all name_holds (stands_on side all)) stand ∙ ahead.kept;
}

pub puts-same : (K : Behaviour) (to : Spot) (m : Message ℕ) (s : State ℕ) (side : Side) → (stream side (put_in K plain to m s).state).opened
    ≡ (stream side s).opened
puts-same K to m s side = (puts-hold (SameButMade s) K (same-stays s) plain to m s (same-itself s)).opened side

pub puts-stand-there : (K : Behaviour) (to : Spot) (m : Message ℕ) (s : State ℕ) → stands_of (put_in K plain to m s).state ≡ stands_of s
puts-stand-there K to m s = puts-stand (stands_of s) K plain to m s refl

-- what the kind of such a message says
module _ where
  pub no-flush : (kind : MsgKind) → is_held kind ≡ true → is_flush kind ≡ false
  unfolding is_held
  no-flush Data held = refl
  no-flush Proto held = refl
  no-flush _ held = absurd (cc)

  nothing-down : (here : Spot) (kind : MsgKind) (bytes : List ℕ) (h : Head ℕ) → is_held kind ≡ true → (obeyed here kind bytes h).sent ≡ []
  unfolding is_held
  nothing-down here Data bytes h held = refl
  nothing-down here Proto bytes h held = refl
  nothing-down here _ bytes h held = absurd (cc)

-- one of two that send nothing
none-sent : {S : Type 0} (b : Bool) (one another : Acted ℕ S) → one.sent ≡ [] → another.sent ≡ [] → (cond b one another).sent ≡ []
none-sent true one another first second = first
none-sent false one another first second = second

none-took : (b : Bool) (one another : Took ℕ (State ℕ)) → one.sent ≡ [] → another.sent ≡ [] → (cond b one another).sent ≡ []
none-took true one another first second = first
none-took false one another first second = second

-- By its table each module hands such a message on as one, the same way.
held-shape : (parts : Bool) (kind : MsgKind) (bytes : List ℕ) → is_held kind ≡ true → shape_by parts kind bytes ≡ Held
unfolding is_held
held-shape parts Data bytes held = grind arith
held-shape parts Proto bytes held = grind arith
held-shape parts _ bytes held = absurd (cc)

held-goes : (name : ModuleName) (way : Way) → (name_does name way Held).emits ≡ (way, Held) ∷ []
held-goes names.Ldterm Up = refl
held-goes names.Ldterm Down = refl
held-goes names.Ptem Up = refl
held-goes names.Ptem Down = refl
held-goes names.Pckt Up = refl
held-goes names.Pckt Down = refl
held-goes (names.Own n) Up = refl
held-goes (names.Own n) Down = refl

-- What costs nothing where another side costs is of the same side; and so with ways and with shapes.
side-same : (here there : Side) → cond (same_side there here) 0 1 ≤ cond (same_side here here) 0 1 → there ≡ here
side-same Master Master few = refl
side-same Slave Slave few = refl
side-same here there few = absurd (omega (arith, few))

way-same : (here there : Way) → cond (same_way there here) 0 1 ≤ cond (same_way here here) 0 1 → there ≡ here
way-same Up Up few = refl
way-same Down Down few = refl
way-same here there few = absurd (omega (arith, few))

unheld : Shape → ℕ
unheld Held = 0
unheld _ = 1

held-same : (parts : Bool) (kind : MsgKind) (bytes : List ℕ) → unheld (shape_by parts kind bytes) ≤ 0 → is_held kind ≡ true
unfolding is_held unheld
held-same parts Data bytes few = refl
held-same parts Proto bytes few = refl
held-same parts _ bytes few = absurd (grind (arith, few))

module _ (to : Spot) where
  one-on : (way : Way) → to.way ≡ way → (at : ℕ) → (way ≡ Down → 0 < at) → (x : Parcel ℕ)
      → Within (x ∷ []) (record { to = record { side = to.side; at = at; way = way }; shape = Held } ∷ []) → SentOn to (x ∷ [])
  unfolding cost_of unheld
  one-on way is at low x within =
      let goes = way-same way x.to.way (omega (arith, within (λ a. cond (same_way a.to.way way) 0 1))) in (
        held-same (has_parts x.message) x.message.kind x.message.plain (omega (arith, within (λ a. unheld a.shape))),
        side-same to.side x.to.side (omega (arith, within (λ a. cond (same_side a.to.side to.side) 0 1))),
        goes ∙ sym is,
        λ down. (let below = low (sym goes ∙ down) in omega (arith, below, within (λ a. 1 - a.to.at))),
      )

  sent-on : (way : Way) → to.way ≡ way → (sent : List (Parcel ℕ)) → Within sent (record { to = toward way to; shape = Held } ∷ []) → SentOn to sent
  unfolding cost_of
  sent-on way is [] within = tt
  sent-on Up is (x ∷ []) within = one-on Up is (to.at - 1) (λ down. absurd (cc)) x within
  sent-on Down is (x ∷ []) within = one-on Down is (to.at + 1) (λ down. omega arith) x within
  sent-on way is (x ∷ y ∷ more) within = absurd (omega (arith, within (λ a. 1)))

module _ (to : Spot) (m : Message ℕ) (held : is_held m.kind ≡ true) where
  -- at a head
  head-none : (s : State ℕ) → (put_at_head to.side to m s).sent ≡ []
  head-none s =
      let h = (stream to.side s).head in
      let parts = none-sent (is_doubled m h.queue.messages) _ _ refl refl in
      none-took (is_open (stream to.side s).opened) _ _ (none-sent (has_parts m) (waits_for_readers to m h) (obeyed to m.kind m.plain h) parts (nothing-down to m.kind m.plain h held)) refl

  -- at a driver
  taken-none : (side : Side) (across : Across) (q : Queue ℕ) → (taken_in side across m q).sent ≡ []
  taken-none side across q = none-sent across.ended _ _ refl refl

  down-none : (side : Side) (across : Across) (here : Spot) (kind : MsgKind) (q : Queue ℕ) → is_held kind ≡ true → (put_down side across here kind m q).sent ≡ []
  unfolding is_held crosses
  down-none side across here Data q held = taken-none side across q
  down-none side across here Proto q held = taken-none side across q
  down-none side across here _ q held = absurd (cc)

  across-none : (side : Side) (across : Across) (kind : MsgKind) (q : Queue ℕ) → is_held kind ≡ true → (put_across side across kind m q).sent ≡ []
  unfolding is_held
  across-none side across Data q held = refl
  across-none side across Proto q held = refl
  across-none side across _ q held = absurd (cc)

  driver-none : (way : Way) (side : Side) (across : Across) (at : ℕ) (q : Queue ℕ) → (driver_put side across (record to { at = at; way = way }) m q).sent ≡ []
  driver-none Down side across at q = none-sent (has_parts m) _ _ (taken-none side across q) (down-none side across (record to { at = at; way = Down }) m.kind q held)
  driver-none Up side across at q = none-sent (has_parts m) _ _ (taken-none side across q) (across-none side across m.kind q held)

  at-driver : (s : State ℕ) → (put_at_driver to.side to m s).sent ≡ []
  at-driver s = driver-none to.way to.side (across_of to.side s) (driver_place to.side s) (stream to.side s).driver.queue

  -- at a module
  at-module : (K : Behaviour) (made : ℕ) (p : Standing ℕ) → SentOn to (module_puts K plain made to m p).sent
  at-module K made p =
      let within = (puts-lawfully K p plain made to m).within in
      sent-on to to.way refl (module_puts K plain made to m p).sent
      (subst (λ d. Within (module_puts K plain made to m p).sent (map (next_at to) d))
      (ap (λ shape. (name_does (module_name p) to.way shape).emits) (held-shape (has_parts m) m.kind m.plain held)
      ∙ held-goes (module_name p) to.way)
      within)

  at-modules : (K : Behaviour) (made i : ℕ) (ps : List (Standing ℕ)) → SentOn to (act_among (module_puts K plain made to m) i ps).sent
  at-modules K made i [] = tt
  at-modules K made zero (p ∷ ps) = at-module K made p
  at-modules K made (suc i) (p ∷ ps) = at-modules K made i ps

  -- behind the modules
  behind : (way : Way) → to.way ≡ way → (s : State ℕ) → SentOn to (put_behind way to m s).sent
  behind Down is s = subst (λ ps. SentOn to ps) (sym (at-driver s)) tt
  behind Up is s =
      let other = ap (λ b. (b && not (has_parts m)) && to.at == suc MODULES) (no-flush m.kind held) in
      subst (λ b. SentOn to (cond b (put_at_driver to.side to m s) (passed_up to m s)).sent) (sym other) (held, refl, refl, λ down. absurd (let w = sym is ∙ down in cc))

  below : (K : Behaviour) (s : State ℕ) → SentOn to (put_below K plain to.way to m s).sent
  below K s = at (nat_le to.at (modules_on to.side s))
    where
      at : (stands : Bool) → SentOn to (cond stands (put_at_module K plain to m s) (put_behind to.way to m s)).sent
      at true = at-modules K (made_above to.side s) (to.at - 1) (stream to.side s).modules
      at false = behind to.way refl s

  pub puts-go : (K : Behaviour) (s : State ℕ) → SentOn to (put_in K plain to m s).sent
  puts-go K s = at (to.at == 0)
    where
      at : (top : Bool) → SentOn to (cond top (put_at_head to.side to m s) (put_below K plain to.way to m s)).sent
      at true = subst (λ ps. SentOn to ps) (sym (head-none s)) tt
      at false = below K s
