-- A head that is told its read mode, and what stands on the stream beside it.
use Rattle.strm_pair.proofs.Prelude.{ℕ, ◌≡◌, Bool, true, false, cond, List, [], ◌∷◌, refl, sym, ap, ◌∙◌, Option, None, Some, is_some, ◌&&◌, ◌||◌}
use Rattle.strm_pair.proofs.Prelude.{not, nat_lt, get-set-same}
use Rattle.strm_pair.specs.Prelude.{MODULES, ReadMode, ModuleName, Side, Master, Slave, Up, EndClosed, plain, Carried, Goes, Took, cells_of, stands}
use Rattle.strm_pair.specs.Prelude.{direction_at, has_queues, have_queues, is_open, mode_message, head_above, may_stand, mode_put, module_named}
use Rattle.strm_pair.specs.Prelude.{named_by, with_modules, delivered, Standing, module_name, State, Stream, stream, with_stream, Behaviour}
use Rattle.std.specs.Prelude.{length}
use Rattle.strm_types.specs.Heads.{with_options}
use Rattle.strm_types.specs.Standings.{new_pair}
use Rattle.strm_types.specs.Options.{options_in, mode_number}
use Rattle.strm_laws.specs.Pushes.{is_known, let_come, mode_on_push, pushed_named}
use Rattle.strm_laws.proofs.FlushDelivered.{carries, went_on}
use Rattle.strm_laws.proofs.SameNames.{kind-is}

-- what it does at a head that is open, and at one that isn't
abbrev told_mode : Bool → Side → ReadMode → State ℕ → Carried ℕ (State ℕ)
told_mode true side mode s =
    let above = stream side s in
    record { state = with_stream side (record above { head = with_options (options_in (mode_number mode ∷ 0 ∷ [])) above.head }) s; gone = [] }
told_mode false side mode s = record { state = s; gone = Goes (direction_at Up side) EndClosed (cells_of {C = ℕ} (mode_message mode false)) ∷ [] }

puts-mode : (side : Side) (mode : ReadMode) (s : State ℕ) → mode_put side (Some mode) s ≡ told_mode (is_open (stream side s).opened) side mode s
puts-mode side mode s = by (is_open (stream side s).opened)
  where
    by : (opened : Bool) → (let t : Took ℕ (State ℕ) = cond opened
        (record { state = with_stream side (record (stream side s) { head = with_options (options_in (mode_number mode ∷ 0 ∷ [])) (stream side s).head }) s; sent = []; gone = [] })
        (record { state = s; sent = []; gone = Goes (direction_at Up side) EndClosed (cells_of {C = ℕ} (mode_message mode false)) ∷ [] }) in record { state = t.state; gone = t.gone }) ≡ told_mode opened side mode s
    by true = refl
    by false = refl

-- nothing is sent there, so that a delivery does the same
delivers-mode : (K : Behaviour) (side : Side) (mode : ReadMode) (s : State ℕ) → delivered K plain (head_above side) (mode_message mode false) s ≡ told_mode (is_open (stream side s).opened) side mode s
delivers-mode K side mode s = carries plain K 15 (record { to = head_above side; message = mode_message mode false }) s ∙ by (is_open (stream side s).opened)
  where
    by : (opened : Bool) → went_on plain K 15 (cond opened
        (record { state = with_stream side (record (stream side s) { head = with_options (options_in (mode_number mode ∷ 0 ∷ [])) (stream side s).head }) s; sent = []; gone = [] })
        (record { state = s; sent = []; gone = Goes (direction_at Up side) EndClosed (cells_of {C = ℕ} (mode_message mode false)) ∷ [] })) ≡ told_mode opened side mode s
    by true = refl
    by false = refl

pub mode-delivered : (K : Behaviour) (side : Side) (mode : ReadMode) (s : State ℕ) → delivered K plain (head_above side) (mode_message mode false) s ≡ mode_put side (Some mode) s
mode-delivered K side mode s = delivers-mode K side mode s ∙ sym (puts-mode side mode s)

-- The modules stay, and it is the same with others.
told-there : (side : Side) (mode : ReadMode) (s : State ℕ) → stream side (told_mode true side mode s).state ≡ record (stream side s) { head = with_options (options_in (mode_number mode ∷ 0 ∷ [])) (stream side s).head }
told-there side mode s = get-set-same side (record (stream side s) { head = with_options (options_in (mode_number mode ∷ 0 ∷ [])) (stream side s).head }) s.ends

told-stays : (opened : Bool) (side : Side) (mode : ReadMode) (s : State ℕ) → (stream side (told_mode opened side mode s).state).modules ≡ (stream side s).modules
told-stays true side mode s = ap (λ (x : Stream ℕ). x.modules) (told-there side mode s)
told-stays false side mode s = refl

pub modules-stay : (side : Side) (mode : Option ReadMode) (s : State ℕ) → (stream side (mode_put side mode s).state).modules ≡ (stream side s).modules
modules-stay side None s = refl
modules-stay side (Some mode) s = ap (λ (t : Carried ℕ (State ℕ)). (stream side t.state).modules) (puts-mode side mode s) ∙ told-stays (is_open (stream side s).opened) side mode s

-- So does the ioctl under way.
ioctl-told : (opened : Bool) (side : Side) (mode : ReadMode) (s : State ℕ) → (stream side (told_mode opened side mode s).state).head.ioctl ≡ (stream side s).head.ioctl
ioctl-told true side mode s = ap (λ (x : Stream ℕ). x.head.ioctl) (told-there side mode s)
ioctl-told false side mode s = refl

pub ioctl-stays : (side : Side) (mode : Option ReadMode) (s : State ℕ) → (stream side (mode_put side mode s).state).head.ioctl ≡ (stream side s).head.ioctl
ioctl-stays side None s = refl
ioctl-stays side (Some mode) s = ap (λ (t : Carried ℕ (State ℕ)). (stream side t.state).head.ioctl) (puts-mode side mode s) ∙ ioctl-told (is_open (stream side s).opened) side mode s

-- the same with these modules
abbrev among : Side → List (Standing ℕ) → Carried ℕ (State ℕ) → Carried ℕ (State ℕ)
among side ms t = record { state = with_modules side ms t.state; gone = t.gone }

told-among : (opened : Bool) (side : Side) (mode : ReadMode) (ms : List (Standing ℕ)) (s : State ℕ) → told_mode opened side mode (with_modules side ms s) ≡ among side ms (told_mode opened side mode s)
told-among true Master mode ms s = refl
told-among true Slave mode ms s = refl
told-among false side mode ms s = refl

opened-same : (side : Side) (ms : List (Standing ℕ)) (s : State ℕ) → is_open (stream side (with_modules side ms s)).opened ≡ is_open (stream side s).opened
opened-same side ms s = ap (λ (x : Stream ℕ). is_open x.opened) (get-set-same side (record (stream side s) { modules = ms }) s.ends)

mode-among : (side : Side) (mode : Option ReadMode) (ms : List (Standing ℕ)) (s : State ℕ) → mode_put side mode (with_modules side ms s) ≡ among side ms (mode_put side mode s)
mode-among side None ms s = refl
mode-among side (Some mode) ms s =
    puts-mode side mode (with_modules side ms s)
    ∙ ap (λ opened. told_mode opened side mode (with_modules side ms s)) (opened-same side ms s)
    ∙ told-among (is_open (stream side s).opened) side mode ms s
    ∙ ap (among side ms) (sym (puts-mode side mode s))

-- A known name makes a module, and one that makes a module that may stand is known.
pub named-known : (K : Behaviour) (name : ModuleName) → is_known K name ≡ true → named_by {C = ℕ} K (Some name) ≡ Some (module_named K name)
named-known K name known = ap (λ (b : Bool). cond b (Some (module_named K name)) None) known

pub stands-known : (K : Behaviour) (name : ModuleName) (ms : List (Standing ℕ)) → may_stand (named_by K (Some name)) ms ≡ true → is_known K name
    ≡ true
stands-known K name ms may = by (is_known K name) may
  where
    by : (known : Bool) → may_stand (cond known (Some (module_named K name)) None) ms ≡ true → known ≡ true
    by true may = refl
    by false may = absurd (cc)

-- the module that a name makes may stand where the name is known, there is room and none of its name stands
pub may-known : (K : Behaviour) (name : ModuleName) (ms : List (Standing ℕ))
    → (is_known K name && (nat_lt (length ms) MODULES && not (stands module_name name ms))) ≡ may_stand (named_by K (Some name)) ms
may-known K name ms = by (is_known K name)
  where
    by : (known : Bool) → (known && (nat_lt (length ms) MODULES && not (stands module_name name ms)))
        ≡ may_stand (cond known (Some (module_named K name)) None) ms
    by true = ap (λ name. nat_lt (length ms) MODULES && not (stands module_name name ms)) (sym (kind-is ℕ K name))
    by false = refl

pub neither : (a b : Bool) → (a || b) ≡ false → (a ≡ false) × (b ≡ false)
neither true b none = absurd (cc)
neither false b none = (refl, none)

-- modules of a name have queues where they are given some
has-named : (K : Behaviour) (name : ModuleName) → has_queues (module_named {C = ℕ} K name) ≡ have_queues name
has-named K name = by (have_queues name)
  where
    by : (has : Bool) → is_some (cond has (Some (new_pair {C = ℕ})) None) ≡ has
    by true = refl
    by false = refl

-- A module is pushed: the head may be told its mode before it stands there.
pub pushed-is : (K : Behaviour) (side : Side) (name : ModuleName) (s : State ℕ) → named_by {C = ℕ} K (Some name) ≡ Some (module_named K name)
    → let t = mode_put side (mode_on_push name) s in pushed_named side (named_by K (Some name)) s ≡ record {
      state = let_come (have_queues name) side (with_modules side (module_named K name ∷ (stream side t.state).modules) t.state);
      gone = t.gone;
    }
pushed-is K side name s known =
    let p = module_named K name in
    let ms = (stream side s).modules in
    let t = mode_put side (mode_on_push name) s in
    ap (λ q. pushed_named side q s) known
    ∙ ap (λ n. comes (has_queues p) (mode_put side (mode_on_push n) (with_modules side (p ∷ ms) s))) (kind-is ℕ K name)
    ∙ ap (λ has. comes has (mode_put side (mode_on_push name) (with_modules side (p ∷ ms) s))) (has-named K name)
    ∙ ap (comes (have_queues name)) (mode-among side (mode_on_push name) (p ∷ ms) s)
    ∙ ap (λ qs. comes (have_queues name) (among side (p ∷ qs) t)) (sym (modules-stay side (mode_on_push name) s))
  where
    comes : Bool → Carried ℕ (State ℕ) → Carried ℕ (State ℕ)
    comes has t = record { state = let_come has side t.state; gone = t.gone }
