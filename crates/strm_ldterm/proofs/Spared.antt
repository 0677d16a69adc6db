-- What is free behind a call of ldterm's service procedure: enough for what it has sent, and for the rest of a byte where it is called again.
use Rattle.strm_ldterm.proofs.Prelude.{ℕ, ◌≡◌, ◌≤◌, ◌+◌, ◌-◌, ◌*◌, Bool, true, false, cond, List, [], ◌∷◌, map, refl, sym, ap, subst, ◌∙◌, arith}
use Rattle.strm_ldterm.proofs.Prelude.{false≢true, ◌&&◌, not, Option, None, Some, is_some, unwrap_or, most-few, none-few, one-few}
use Rattle.strm_ldterm.specs.Prelude.{MsgKind, Way, Up, Down, Spot, plain, cost_of, most, Parcel, toward, onward, input_begins, is_data, passes}
use Rattle.strm_ldterm.specs.Prelude.{stages_done, to_treat, treats, ldterm_serves, Answered, Begun, Between, Discipline, Stage, by_itself, Message}
use Rattle.strm_ldterm.specs.Prelude.{cells_of, posts, output_dir, output_serves, posted, unchanged, with_given, is_none_left, left_with, Serving}
use Rattle.strm_ldterm.specs.Prelude.{opost, shape_of, StoreValue, FreesBlocks, HasRoom}
use Rattle.std.specs.Prelude.{length, take}
use Rattle.strm_types.specs.declared.kinds.MsgKind.TheVariants as kinds
use Rattle.strm_types.specs.Budgets.{most_on}
use Rattle.strm_types.specs.Shapes.{shape_by}
use Rattle.strm_frame.specs.Serves.{later_cost}
use Rattle.strm_ldterm.specs.Bounds.{goes_out, passes_whole, turn_cost}
use Rattle.strm_ldterm.specs.Turns.{leaves, needs}
use Rattle.strm_ldterm.proofs.OutWhole.{goes-whole}
use Rattle.strm_ldterm.proofs.Spending.{Leaves, stages-spare}
use Rattle.strm_ldterm.proofs.Turned.{again-serves, down-serves, first-serves}

-- what goes up at the end of a turn may become a packet
abbrev at_end : Way → ℕ
at_end Up = 1
at_end Down = 0

module _ (here : Spot) where
  -- a call that treats bytes
  pub record Treats (v : Serving ℕ (Discipline ℕ)) : Type 0 where
    pub up : v.again ≡ true → here.way ≡ Up
    pub more : v.again ≡ true → Leaves here v.acted
    pub over : v.again ≡ false → cost_of most v.acted.sent ≤ at_end here.way

  -- a call in which a message passes whole, or none
  pub record Passes (v : Serving ℕ (Discipline ℕ)) : Type 0 where
    pub over : v.again ≡ false
    pub few : cost_of most v.acted.sent ≤ 25

  treats-spare : here.way ≡ Up → (bytes : ℕ) (p : Discipline ℕ) → is_some p.in_work ≡ true → Treats (treats plain here bytes 0 p)
  treats-spare up bytes p work = let spares = stages-spare here (3 * bytes - stages_done p.stage) 0 p work in record { up = λ again. up; more = spares.more; over = λ ends. (let one = spares.over ends in let same = ap at_end up in omega (arith, one, same)) }

  passes-few : (way : Way) (m : Message ℕ) (rest : List (Message ℕ)) (p : Discipline ℕ) → Passes (passes plain here way m rest p)
  passes-few way m rest p = record { over = refl; few = one-few {C = ℕ} most 25 (toward way here) m (omega (arith, most-few (record { to = toward way here; shape = shape_of m }))) }

  nothing-few : cost_of {C = ℕ} most [] ≤ 25
  nothing-few = none-few ℕ most 25

  -- what is given to go down takes none
  data-down : (kind : MsgKind) (bytes : List ℕ) → is_data kind ≡ true → most_on Down (shape_by true kind bytes) ≡ 0
  data-down kinds.Data bytes is = refl
  data-down _ bytes is = absurd (cc)

  given-free : (given : List ℕ) (m : Message ℕ) → is_data m.kind ≡ true → cost_of most (map (onward Down here) (with_given given m)) ≤ 0
  given-free [] m is = none-few ℕ most 0
  given-free (c ∷ given) m is =
      let n : Message ℕ = record m { control = None; body = Some (c ∷ given) } in
      one-few {C = ℕ} most 0 (toward Down here) n (omega (arith, data-down m.kind m.plain is))

  module _ (again : Bool) (stop : Option ℕ) (p : Discipline ℕ) where
    abbrev call : Serving ℕ (Discipline ℕ)
    call = ldterm_serves plain here 0 again stop p

    input-treats : here.way ≡ Up → (ms : List (Message ℕ)) → passes_whole Up false (record p { read_queue = record p.read_queue { messages = ms } }) ≡ false → Treats (input_begins plain here stop 0 ms p)
    input-treats up [] whole = absurd (false≢true (sym whole))
    input-treats up (m ∷ rest) whole = at (is_data m.kind) whole
      where
        bytes : ℕ
        bytes = unwrap_or stop (length (cells_of m))

        begun : Discipline ℕ
        begun = record p { read_queue = left_with rest p.read_queue; in_work = Some m }

        at : (is : Bool) → not is ≡ false → Treats (cond is (treats plain here bytes 0 begun) (passes plain here Up m rest p))
        at true e = treats-spare up bytes begun refl
        at false e = absurd (false≢true (sym e))

    input-passes : (ms : List (Message ℕ)) → passes_whole Up false (record p { read_queue = record p.read_queue { messages = ms } }) ≡ true → Passes (input_begins plain here stop 0 ms p)
    input-passes [] whole = record { over = refl; few = nothing-few }
    input-passes (m ∷ rest) whole = at (is_data m.kind) whole
      where
        bytes : ℕ
        bytes = unwrap_or stop (length (cells_of m))

        begun : Discipline ℕ
        begun = record p { read_queue = left_with rest p.read_queue; in_work = Some m }

        at : (is : Bool) → not is ≡ true → Passes (cond is (treats plain here bytes 0 begun) (passes plain here Up m rest p))
        at true e = absurd (false≢true e)
        at false e = passes-few Up m rest p

    abbrev down : List (Message ℕ) → Discipline ℕ
    down ms = record p { write_queue = record p.write_queue { messages = ms } }

    output-passes : (ms : List (Message ℕ)) → passes_whole Down again (down ms) ≡ true → Passes (output_serves plain here stop 0 ms p)
    output-passes [] whole = record { over = refl; few = nothing-few }
    output-passes (m ∷ rest) whole = subst Passes (sym (goes-whole here stop m rest p (turned whole))) (passes-few Down m rest p)
      where
        turned : not (goes_out p.termios m) ≡ true → goes_out p.termios m ≡ false
        turned whole = at (goes_out p.termios m) whole
          where
            at : (v : Bool) → not v ≡ true → v ≡ false
            at true e = absurd (false≢true e)
            at false e = refl

    output-treats : (ms : List (Message ℕ)) → passes_whole Down again (down ms) ≡ false → Treats (output_serves plain here stop 0 ms p)
    output-treats [] whole = absurd (false≢true (sym whole))
    output-treats (m ∷ rest) whole = record { up = λ more. absurd (false≢true more); more = λ more. absurd (false≢true more); over = λ ends. ends-free }
      where
        at : (treated output : Bool) (xs : List ℕ) → is_data m.kind ≡ treated → not (treated && (output && not (is_none_left xs))) ≡ false
            → cost_of most (map (onward Down here) (cond (treated && output) (posted plain here stop 0 xs m p) (unchanged m p)).messages) ≤ 0
        at false output xs is e = absurd (false≢true (sym e))
        at true false xs is e = absurd (false≢true (sym e))
        at true true [] is e = absurd (false≢true (sym e))
        at true true (x ∷ xs) is e = given-free (posts plain (output_dir plain here) 0 p.termios p.column (take (unwrap_or stop (length (x ∷ xs))) (x ∷ xs))).given m is

        ends-free : cost_of most (output_serves plain here stop 0 (m ∷ rest) p).acted.sent ≤ at_end here.way
        ends-free = let free = at (is_data m.kind) (opost p.termios) (cells_of m) refl whole in omega (arith, free)

    serves-treat : (way : Way) (more : Bool) → here.way ≡ way → again ≡ more → (way ≡ Up → more ≡ true → is_some p.in_work ≡ true) → passes_whole way more p ≡ false → Treats call
    serves-treat Down more is same work whole = subst Treats (sym (down-serves here again stop p is)) (output-treats p.write_queue.messages whole)
    serves-treat Up false is same work whole = subst Treats (sym (first-serves here again stop p is same)) (input-treats is p.read_queue.messages whole)
    serves-treat Up true is same work whole = subst Treats (sym (again-serves here again stop p is same)) (treats-spare is (unwrap_or stop (to_treat p)) p (work refl refl))

    serves-pass : (way : Way) (more : Bool) → here.way ≡ way → again ≡ more → passes_whole way more p ≡ true → Passes call
    serves-pass Down more is same whole = subst Passes (sym (down-serves here again stop p is)) (output-passes p.write_queue.messages whole)
    serves-pass Up false is same whole = subst Passes (sym (first-serves here again stop p is same)) (input-passes p.read_queue.messages whole)
    serves-pass Up true is same whole = absurd (false≢true whole)

    -- what it sends takes little
    leaves-few : (stage : Stage ℕ) → leaves stage ≤ 31
    leaves-few Between = omega arith
    leaves-few (Begun started c) = omega arith
    leaves-few (Answered echo) = omega arith

    ends-few : (way : Way) → at_end way ≤ 1
    ends-few Up = omega arith
    ends-few Down = omega arith

    pub call-few : (here.way ≡ Up → again ≡ true → is_some p.in_work ≡ true) → cost_of most call.acted.sent ≤ 31
    call-few work = at (passes_whole here.way again p) refl
      where
        treated : Treats call → (more : Bool) → call.again ≡ more → cost_of most call.acted.sent ≤ 31
        treated is true goes = omega (arith, is.more goes, leaves-few call.acted.state.stage)
        treated is false goes = omega (arith, is.over goes, ends-few here.way)

        at : (whole : Bool) → passes_whole here.way again p ≡ whole → cost_of most call.acted.sent ≤ 31
        at true whole = omega (arith, (serves-pass here.way again refl refl whole).few)
        at false whole = treated (serves-treat here.way again refl refl work whole) call.again refl

    -- what it may count on
    whole-counts : (way : Way) (more : Bool) → passes_whole way more p ≡ true → turn_cost (record here { way = way }) more (by_itself p) ≡ 25
    whole-counts Down more whole = refl
    whole-counts Up false whole = refl
    whole-counts Up true whole = absurd (false≢true whole)

    bytes-count : (way : Way) (q : Discipline ℕ) → way ≡ Up → turn_cost (record here { way = way }) true (by_itself q) ≡ needs q.stage
    bytes-count Down q up = absurd (cc up)
    bytes-count Up q up = refl

    module _ (old new : StoreValue) (q : Discipline ℕ) (more : Bool) (sent : List (Parcel ℕ)) (state : q ≡ call.acted.state) (parcels : sent ≡ call.acted.sent) (calls : more ≡ call.again) where
      same-cost : cost_of most sent ≡ cost_of most call.acted.sent
      same-cost = ap (cost_of most) parcels

      passed-room : (whole : passes_whole here.way again p ≡ true) → HasRoom old (turn_cost here again (by_itself p)) → FreesBlocks old new → HasRoom new (later_cost more (turn_cost here true (by_itself q)) sent)
      passed-room whole room frees =
          let passes = serves-pass here.way again refl refl whole in
          let counts = whole-counts here.way again whole in
          let ends : more ≡ false = calls ∙ passes.over in
          let few = passes.few in
          let same = same-cost in
          let takes : later_cost more (turn_cost here true (by_itself q)) sent ≡ cost_of most sent + 0 = ap (λ v. cost_of most sent + cond {A = ℕ} v (turn_cost here true (by_itself q)) 0) ends in
          record {
            mblks = (let r = room.mblks in let f = frees.mblks in omega (arith, counts, few, same, takes, r, f));
            dblks = (let r = room.dblks in let f = frees.dblks in omega (arith, counts, few, same, takes, r, f));
          }

      treated-room : (whole : passes_whole here.way again p ≡ false) → (here.way ≡ Up → again ≡ true → is_some p.in_work ≡ true) → (more ≡ true → HasRoom new (leaves q.stage)) → (here.way ≡ Up → HasRoom new 1) → HasRoom new (later_cost more (turn_cost here true (by_itself q)) sent)
      treated-room whole work behind at_last = at more refl
        where
          treats : Treats call
          treats = serves-treat here.way again refl refl work whole

          last-room : (way : Way) → here.way ≡ way → HasRoom new (at_end way)
          last-room Up is = at_last is
          last-room Down is = record { mblks = omega arith; dblks = omega arith }

          at : (v : Bool) → more ≡ v → HasRoom new (cost_of most sent + cond {A = ℕ} v (turn_cost here true (by_itself q)) 0)
          at true goes =
              let room = behind goes in
              let left = treats.more (sym calls ∙ goes) in
              let counts = bytes-count here.way q (treats.up (sym calls ∙ goes)) in
              let rest : needs q.stage ≡ needs call.acted.state.stage = ap (λ (v : Discipline ℕ). needs v.stage) state in
              let all : leaves q.stage ≡ leaves call.acted.state.stage = ap (λ (v : Discipline ℕ). leaves v.stage) state in
              let same = same-cost in
              record {
                mblks = (let r = room.mblks in omega (arith, left, counts, rest, all, same, r));
                dblks = (let r = room.dblks in omega (arith, left, counts, rest, all, same, r));
              }
          at false ends =
              let most = treats.over (sym calls ∙ ends) in
              let same = same-cost in
              let room = last-room here.way refl in
              record { mblks = (let r = room.mblks in omega (arith, most, same, r)); dblks = (let r = room.dblks in omega (arith, most, same, r)) }

      pub call-room : (here.way ≡ Up → again ≡ true → is_some p.in_work ≡ true) → HasRoom old (turn_cost here again (by_itself p)) → (passes_whole here.way again p ≡ true → FreesBlocks old new)
          → (more ≡ true → HasRoom new (leaves q.stage)) → (here.way ≡ Up → HasRoom new 1) → HasRoom new (later_cost more (turn_cost here true (by_itself q)) sent)
      call-room work room frees behind at_last = at (passes_whole here.way again p) refl
        where
          at : (whole : Bool) → passes_whole here.way again p ≡ whole → HasRoom new (later_cost more (turn_cost here true (by_itself q)) sent)
          at true whole = passed-room whole room (frees whole)
          at false whole = treated-room whole work behind at_last
