-- A put in a pair, and with it a delivery, adds no more moves than its message costs, where at most one ldterm stands in the pair and pckt doesn't
-- stand below it.
use Rattle.strm_laws.proofs.Prelude.{ℕ, zero, suc, ◌≡◌, ◌≤◌, ◌<◌, ◌+◌, ◌-◌, Bool, true, false, cond, List, [], ◌∷◌, length, map, refl, sym, ap, subst}
use Rattle.strm_laws.proofs.Prelude.{◌∙◌, arith, ◌&&◌, ◌==◌, not, nat_le, sum_by, nat_tests, sum_by-cons, get-map, carried-holds}
use Rattle.strm_laws.specs.Prelude.{MsgKind, Flush, HOPS, MODULES, ModuleName, Side, Master, Slave, Way, Up, Down, Spot, Cells, Acted, Comes, Fate}
use Rattle.strm_laws.specs.Prelude.{Goes, Parcel, Took, carried, in_turn, driver_put, is_bare_flush, is_flush, head_put, Message, cells_of, has_parts}
use Rattle.strm_laws.specs.Prelude.{put_among, have_queues, is_open, other, stood, disciplined}
use Rattle.strm_types.specs.declared.names.ModuleName.TheVariants as names
use Rattle.strm_laws.specs.Behaviours.{Behaviour}
use Rattle.strm_laws.specs.Earlier.{driver_place, modules_on}
use Rattle.strm_laws.specs.Puts.{across_of, booked, delivered, made_above, module_acted, passed_up, put_at_driver, put_at_head, put_at_module, put_behind, put_below, put_in}
use Rattle.strm_laws.specs.Rest.{echoes, module_moves, moves, moves_above, moves_across, stream_moves}
use Rattle.strm_laws.specs.StackCosts.{Stands, stands_of, stands_on}
use Rattle.strm_laws.specs.Stacked.{Standing, OfLdterm, OfOwn, OfPtem, OfPckt, module_name, module_puts, kind_name, Module}
use Rattle.strm_laws.specs.State.{State, Stream, stream, with_stream}
use Rattle.strm_laws.proofs.RestCosts.{PutPays, above-more, at_or_above, at_or_below, carried-pays, in_turn-pays, sinks_by, toll, toll_at, up-falls}
use Rattle.strm_laws.proofs.RestLdterms.{ldterm-pays}
use Rattle.strm_laws.proofs.RestOwns.{own-pays}
use Rattle.strm_laws.proofs.RestPuts.{came-across, came-down, head-few, pckt-few, ptem-few, tolls}
use Rattle.strm_laws.proofs.StackStays.{Stand, puts-stand}

-- An ldterm stands at this place and the other stream has none; pckt stands where no ldterm is above; none of a user's own has queues.
abbrev pub FitsName : Bool → Bool → ℕ → ℕ → ModuleName → Type 0
FitsName echoed across post at names.Ldterm = (echoed ≡ true) × (across ≡ false) × (post ≡ at)
FitsName echoed across post at names.Ptem = Unit {0}
FitsName echoed across post at names.Pckt = at_or_above echoed post (at - 1) ≡ false
FitsName echoed across post at (names.Own n) = have_queues (names.Own n) ≡ false

abbrev pub FitNames : Bool → Bool → ℕ → ℕ → List ModuleName → Type 0
FitNames echoed across post at [] = Unit {0}
FitNames echoed across post at (n ∷ ns) = FitsName echoed across post at n × FitNames echoed across post (suc at) ns

abbrev pub Fit : Stands → (Side → ℕ) → Type 0
Fit all posts = (side : Side) → FitNames (echoes all side) (echoes all (other side)) (posts side) 1 (stands_on side all)

no-parts : (flush parts b : Bool) → ((flush && not parts) && b) ≡ true → parts ≡ false
no-parts true false b is = refl
no-parts true true b is = absurd (cc)
no-parts false parts b is = absurd (cc)

past : (at count : ℕ) → nat_le at count ≡ false → count ≤ at
past at count is = let less : count < at = grind (arith, nat_tests) in omega (arith, less)

not-head : (at : ℕ) → (at == 0) ≡ false → 0 < at
not-head at is = let some : 0 < at = grind (arith, nat_tests) in some

module _ {C : Type 0} (all : Stands) where
  -- another stream on a side
  pub with-moves : (side : Side) (on : Stream C) (s : State C) → moves all (with_stream side on s) + stream_moves (echoes all (other side)) (stream side s) ≡ moves all s + stream_moves (echoes all (other side)) on
  with-moves Master on s = omega arith
  with-moves Slave on s = omega arith

  pub same-moves : (side : Side) (on : Stream C) (s : State C) → stream_moves (echoes all (other side)) on ≡ stream_moves (echoes all (other side)) (stream side s) → moves all (with_stream side on s) ≡ moves all s
  same-moves side on s same = omega (arith, with-moves side on s, same)

  booked-same : (told : List (Fate C)) (s : State C) → moves all (booked told s) ≡ moves all s
  booked-same [] s = refl
  booked-same (Goes dir rule xs ∷ told) s = booked-same told s
  booked-same (Comes dir xs ∷ told) s = booked-same told _

  -- modules that have acted
  pub acted-moves : (here : Spot) (t : Acted C (List (Standing C))) (s : State C) → moves all (module_acted here t s).state + sum_by module_moves (stream here.side s).modules ≡ moves all s + sum_by module_moves t.state
  acted-moves here t s =
      let on = stream here.side s in
      omega (arith, with-moves here.side (record on { modules = t.state }) s, booked-same t.gone (module_acted here (record t { gone = [] }) s).state)

  -- the modules that stand there have these names
  pub names-on : (side : Side) (s : State C) → stands_of s ≡ all → map module_name (stream side s).modules ≡ stands_on side all
  names-on side s is = sym (get-map (λ (t : Stream C). map module_name t.modules) side s.ends) ∙ ap (λ (of : Stands). stands_on side of) is

  module _ (posts : Side → ℕ) where
    -- what a put adds
    abbrev Pays : Took C (State C) → ℕ → Type 0
    Pays t n = moves all t.state + tolls all posts t.sent ≤ n

    either-pays : (n : ℕ) (b : Bool) (one another : Took C (State C)) → (b ≡ true → Pays one n) → (b ≡ false → Pays another n) → Pays (cond b one another) n
    either-pays n true one another first second = first refl
    either-pays n false one another first second = second refl

    head-pays : (side : Side) (here : Spot) (m : Message C) (s : State C) → Pays (put_at_head side here m s) (moves all s + moves_above m.kind false (length (cells_of m)))
    head-pays side here m s =
        let above = stream side s in
        either-pays _ (is_open above.opened) _ _
        (λ is. omega (arith, head-few all posts here m above.head, same-moves side (record above { head = (head_put here m above.head).state }) s refl))
        (λ is. omega arith)

    -- a message that goes down costs what it does at the driver at least
    at-driver : (side : Side) (at : ℕ) (m : Message C) → cond (is_bare_flush m) 0 (moves_across (echoes all (other side)) m) ≤ toll_at all posts Down side at m
    at-driver side at m = more (is_bare_flush m)
      where
        more : (bare : Bool) → cond bare 0 (moves_across (echoes all (other side)) m) ≤ cond bare 0 (sinks_by m.kind (at_or_below (echoes all side) (posts side) at) (length (cells_of m)) + moves_across (echoes all (other side)) m)
        more true = omega arith
        more false = omega arith

    down-pays : (side : Side) (here : Spot) (m : Message C) (s : State C) → Pays (put_at_driver side (record here { way = Down }) m s) (moves all s + cond (is_bare_flush m) 0 (moves_across (echoes all (other side)) m))
    down-pays side here m s =
        let below = stream side s in
        let spot : Spot = record here { at = driver_place side s } in
        omega (arith, came-down all posts side (across_of side s) m below.driver.queue spot, with-moves side (record below { driver = record { queue = (driver_put side (across_of side s) (record spot { way = Down }) m below.driver.queue).state } }) s)

    up-pays : (side : Side) (here : Spot) (m : Message C) (s : State C) → has_parts m ≡ false → Pays (put_at_driver side (record here { way = Up }) m s) (moves all s)
    up-pays side here m s none =
        let below = stream side s in
        let spot : Spot = record here { at = driver_place side s } in
        omega (arith, came-across all posts side (across_of side s) m below.driver.queue spot none, with-moves side (record below { driver = record { queue = (driver_put side (across_of side s) (record spot { way = Up }) m below.driver.queue).state } }) s)

    behind-pays : (way : Way) (here : Spot) (m : Message C) (s : State C) → modules_on here.side s ≤ here.at → Pays (put_behind way (record here { way = way }) m s) (moves all s + toll_at all posts way here.side here.at m)
    behind-pays Down here m s low = omega (arith, down-pays here.side here m s, at-driver here.side here.at m)
    behind-pays Up here m s low =
        let up : Spot = record here { way = Up } in
        either-pays _ (is_bare_flush m && here.at == suc MODULES) (put_at_driver here.side up m s) (passed_up up m s)
        (λ is. omega (arith, up-pays here.side here m s (no-parts (is_flush m.kind) (has_parts m) (here.at == suc MODULES) is)))
        (λ is. omega (arith, up-falls all posts here.side (modules_on here.side s) here.at m low))

    module _ (K : Behaviour) (cells : Cells C) (made : ℕ) where
      module-pays : (here : Spot) (m : Message C) (q : Standing C) → 0 < here.at → FitsName (echoes all here.side) (echoes all (other here.side)) (posts here.side) here.at (module_name q)
          → let t = module_puts K cells made here m q in module_moves t.state + tolls all posts t.sent ≤ module_moves q + toll all posts here m
      module-pays here m x some fits = by x.part fits
        where
          by : (q : Module C) → FitsName (echoes all here.side) (echoes all (other here.side)) (posts here.side) here.at (kind_name q)
              → let t = module_puts K cells made here m (stood q x.queues) in module_moves t.state + tolls all posts t.sent ≤ module_moves (stood q x.queues) + toll all posts here m
          by (OfLdterm l) fits = ldterm-pays all posts here some fits.0 fits.1 fits.2 m (disciplined l x.queues)
          by (OfPtem q) fits = omega (arith, ptem-few all posts here m q)
          by (OfPckt q) fits = omega (arith, pckt-few all posts cells made here m fits)
          by (OfOwn o) fits = omega (arith, own-pays all posts K cells here m o x.queues)

      among-pays : (i at : ℕ) (here : Spot) (m : Message C) (ps : List (Standing C)) → 0 < here.at → at + i ≡ here.at → FitNames (echoes all here.side) (echoes all (other here.side)) (posts here.side) at (map module_name ps)
          → let t = put_among (module_puts K cells made) i here m ps in sum_by module_moves t.state + tolls all posts t.sent ≤ sum_by module_moves ps + toll all posts here m
      among-pays i at here m [] some is fits = omega arith
      among-pays zero at here m (q ∷ qs) some is fits =
          let same : at ≡ here.at = omega (arith, is) in
          let t = module_puts K cells made here m q in
          let fit = subst (λ n. FitsName (echoes all here.side) (echoes all (other here.side)) (posts here.side) n (module_name q)) same fits.0 in
          omega (arith, module-pays here m q some fit, sum_by-cons module_moves q qs, sum_by-cons module_moves t.state qs)
      among-pays (suc i) at here m (q ∷ qs) some is fits =
          let t = put_among (module_puts K cells made) i here m qs in
          omega (arith, among-pays i (suc at) here m qs some (omega (arith, is)) fits.1, sum_by-cons module_moves q qs, sum_by-cons module_moves q t.state)

    module _ (fit : Fit all posts) where
      pub fits-on : (side : Side) (s : State C) → stands_of s ≡ all → FitNames (echoes all side) (echoes all (other side)) (posts side) 1 (map module_name (stream side s).modules)
      fits-on side s is = subst (λ ns. FitNames (echoes all side) (echoes all (other side)) (posts side) 1 ns) (sym (names-on side s is)) (fit side)

      module _ (cells : Cells C) where
        stack-pays : (K : Behaviour) (here : Spot) (m : Message C) (s : State C) → 0 < here.at → stands_of s ≡ all → Pays (put_at_module K cells here m s) (moves all s + toll all posts here m)
        stack-pays K here m s some is =
            let ps = (stream here.side s).modules in
            let made = made_above here.side s in
            omega (arith, among-pays K cells made (here.at - 1) 1 here m ps some (omega (arith, some)) (fits-on here.side s is), acted-moves here (put_among (module_puts K cells made) (here.at - 1) here m ps) s)

        below-pays : (K : Behaviour) (way : Way) (here : Spot) (m : Message C) (s : State C) → 0 < here.at → stands_of s ≡ all → Pays (put_below K cells way (record here { way = way }) m s) (moves all s + toll_at all posts way here.side here.at m)
        below-pays K way here m s some is =
            let to : Spot = record here { way = way } in
            either-pays _ (nat_le here.at (modules_on here.side s)) (put_at_module K cells to m s) (put_behind way to m s)
            (λ stands. stack-pays K to m s some is)
            (λ stands. behind-pays way here m s (past here.at (modules_on here.side s) stands))

        top-pays : (way : Way) (side : Side) (at : ℕ) (m : Message C) → moves_above m.kind false (length (cells_of m)) ≤ toll_at all posts way side at m
        top-pays Up side at m = above-more m.kind (length (cells_of m)) false _ (λ is. absurd (cc))
        top-pays Down side at m = omega (arith, at-driver side at m, whole (is_bare_flush m) refl)
          where
            above-flush : (b : Bool) (n : ℕ) → ((is_flush m.kind && not (has_parts m)) ≡ true) → moves_above m.kind b n ≡ 0
            above-flush b n is = flush-is m.kind (has_parts m) b n is
              where
                flush-is : (kind : MsgKind) (parts b : Bool) (n : ℕ) → (is_flush kind && not parts) ≡ true → moves_above kind b n ≡ 0
                flush-is Flush parts b n is = refl
                flush-is kind parts b n is = absurd (cc)

            whole : (bare : Bool) → is_bare_flush m ≡ bare → moves_above m.kind false (length (cells_of m)) ≤ cond (is_bare_flush m) 0 (moves_across (echoes all (other side)) m)
            whole true is = omega (arith, above-flush false (length (cells_of m)) is)
            whole false is =
                let same = ap (λ (b : Bool). cond b 0 (moves_across (echoes all (other side)) m)) is in
                omega (arith, same, above-more m.kind (length (cells_of m)) false (echoes all (other side)) (λ is. absurd (cc)))

        pub puts-pay : (K : Behaviour) → PutPays (Stand all) (moves all) (toll all posts) (put_in K cells)
        puts-pay K to m s is = either-pays _ (to.at == 0) _ _
            (λ top. omega (arith, head-pays to.side to m s, top-pays to.way to.side to.at m))
            (λ top. below-pays K to.way to m s (not-head to.at top) is)

        -- what is delivered, and several parcels one after the other
        pub sent-pays : (K : Behaviour) (ps : List (Parcel C)) (s : State C) → stands_of s ≡ all → moves all (in_turn (carried (put_in K cells) HOPS) ps s).state ≤ moves all s + tolls all posts ps
        sent-pays K ps s is =
            in_turn-pays (Stand all) (moves all) (toll all posts) (carried (put_in K cells) HOPS) (carried-holds (Stand all) (put_in K cells) (puts-stand all K cells) HOPS)
            (carried-pays (Stand all) (moves all) (toll all posts) (put_in K cells) (puts-stand all K cells) (puts-pay K) HOPS) ps s is

        pub delivered-pays : (K : Behaviour) (to : Spot) (m : Message C) (s : State C) → stands_of s ≡ all → moves all (delivered K cells to m s).state ≤ moves all s + toll all posts to m
        delivered-pays K to m s is = carried-pays (Stand all) (moves all) (toll all posts) (put_in K cells) (puts-stand all K cells) (puts-pay K) HOPS (record { to = to; message = m }) s is
