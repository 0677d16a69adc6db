-- Over plain bytes a call of ldterm's service procedure says nothing of how many were made before. One that asks for another call is the
-- same wherever the stages that it did are among those that it may do, and each that it did counts.
use Rattle.strm_laws.proofs.Prelude.{ℕ, zero, suc, ◌≡◌, ◌≤◌, ◌+◌, ◌-◌, ◌*◌, Bool, true, false, cond, List, [], ◌∷◌, ◌++◌, length, refl, sym, ap}
use Rattle.strm_laws.proofs.Prelude.{subst, ◌∙◌, arith, Option, None, Some, is_some, false≢true}
use Rattle.strm_laws.specs.Prelude.{Way, Up, Down, Spot, plain, Acted, input_begins, is_data, made_of, next_stage, passes, stages, stages_done}
use Rattle.strm_laws.specs.Prelude.{then_on, to_treat, treats, ldterm_serves, Discipline, Stage, Between, Begun, Answered, IsIdle, Message, cells_of}
use Rattle.strm_laws.specs.Prelude.{size_of, output_serves, is_none_left, left_with, first_size, Serving, Begins, Ends, bytes_left}
use Rattle.strm_types.proofs.OutputStops.{output-ends, output-made}
use Rattle.strm_types.proofs.StagesWork.{next-same, stages-work}

module _ (here : Spot) where
  stages-same : (n a b : ℕ) (l : Discipline ℕ) → stages plain here n a l ≡ stages plain here n b l
  stages-same zero a b l = refl
  stages-same (suc n) a b l =
      let t = next_stage plain here b l in
      ap (λ (t : Acted ℕ (Discipline ℕ)). then_on a t (stages plain here n)) (next-same here a b l)
      ∙ ap (λ (u : Acted ℕ (Discipline ℕ)). cond {A = Acted ℕ (Discipline ℕ)} (is_none_left t.sent) (record { state = u.state; notes = t.notes ++ u.notes; sent = u.sent; gone = t.gone ++ u.gone }) t)
      (stages-same n (a + made_of t.gone) (b + made_of t.gone) t.state)

  treats-same : (left a b : ℕ) (l : Discipline ℕ) → treats plain here left a l ≡ treats plain here left b l
  treats-same left a b l =
      ap (λ (t : Acted ℕ (Discipline ℕ)). record { acted = t; bytes = cond (is_some t.state.in_work) (to_treat l - to_treat t.state) left; again = is_some t.state.in_work })
      (stages-same (3 * left - stages_done l.stage) a b l)

  -- A call that treats so many bytes at most and asks for another one: which it is the same as wherever what it did is among the bytes
  -- that it may treat.
  record Goes (l : Discipline ℕ) (bytes : ℕ) (q : Discipline ℕ) : Type 0 where
    pub treat : to_treat q + bytes ≡ to_treat l
    pub done : suc (stages_done l.stage) ≤ stages_done q.stage + 3 * bytes
    pub work : is_some q.in_work ≡ true

  treats-goes : (most made : ℕ) (l : Discipline ℕ) → let t = treats plain here most made l in t.again ≡ true → Goes l t.bytes t.acted.state
  treats-goes most made l works =
      let t = treats plain here most made l in
      let w = stages-work here (3 * most - stages_done l.stage) made l works in
      let bytes = ap (λ again. cond again (to_treat l - to_treat t.acted.state) most) works in
      record { treat = let a = w.less in omega (arith, bytes); done = let a = w.done in let b = w.some in omega (arith, bytes); work = works }

  treats-alike : (most made : ℕ) (l : Discipline ℕ) → let t = treats plain here most made l in t.again ≡ true
      → (left other : ℕ) → stages_done t.acted.state.stage + 3 * t.bytes ≤ 3 * left → treats plain here left other l ≡ t
  treats-alike most made l works left other within =
      let t = treats plain here most made l in
      let w = stages-work here (3 * most - stages_done l.stage) made l works in
      let bytes = ap (λ again. cond again (to_treat l - to_treat t.acted.state) most) works in
      let steps = w.done in
      ap (λ (u : Acted ℕ (Discipline ℕ)). record { acted = u; bytes = cond (is_some u.state.in_work) (to_treat l - to_treat u.state) left; again = is_some u.state.in_work })
      (w.same (3 * left - stages_done l.stage) other (omega (arith, bytes, steps, within)))
      ∙ ap (λ n. record { acted = t.acted; bytes = n; again = t.again }) (ap (λ again. cond again (to_treat l - to_treat t.acted.state) left) works ∙ sym bytes)

-- of M_DATA that stands first on a read queue each byte is a cell, as it is of a store's messages
abbrev pub FullFirst : List (Message ℕ) → Type 0
FullFirst [] = Unit {0}
FullFirst (m ∷ rest) = is_data m.kind ≡ true → length (cells_of m) ≡ size_of m

-- A call that asks for another one: how far it went, and what is left.
pub record GoesOn (way : Way) (again : Bool) (l : Discipline ℕ) (bytes : ℕ) (q : Discipline ℕ) : Type 0 where
  pub up : way ≡ Up
  pub treat : to_treat q + bytes ≤ bytes_left way again l
  pub all : (again ≡ false → FullFirst l.read_queue.messages) → bytes_left way again l ≤ to_treat q + bytes
  pub done : suc (stages_done l.stage) ≤ stages_done q.stage + 3 * bytes
  pub work : is_some q.in_work ≡ true

module _ (here : Spot) where
  made-nothing : (way : Way) (again : Bool) (a b : ℕ) (stop : Option ℕ) (l : Discipline ℕ) → ldterm_serves plain (record here { way = way }) a again stop l ≡ ldterm_serves plain (record here { way = way }) b again stop l
  made-nothing Down again a b stop l = output-made (record here { way = Down }) stop a b l.write_queue.messages l
  made-nothing Up true a b None l = treats-same (record here { way = Up }) (to_treat l) a b l
  made-nothing Up true a b (Some left) l = treats-same (record here { way = Up }) left a b l
  made-nothing Up false a b stop l = of l.read_queue.messages
    where
      of : (ms : List (Message ℕ)) → input_begins plain (record here { way = Up }) stop a ms l ≡ input_begins plain (record here { way = Up }) stop b ms l
      of [] = refl
      of (m ∷ rest) = at stop
        where
          up : Spot
          up = record here { way = Up }

          begun : Discipline ℕ
          begun = record l { read_queue = left_with rest l.read_queue; in_work = Some m }

          at : (stop : Option ℕ) → input_begins plain up stop a (m ∷ rest) l ≡ input_begins plain up stop b (m ∷ rest) l
          at None = ap (λ (t : Serving ℕ (Discipline ℕ)). cond {A = Serving ℕ (Discipline ℕ)} (is_data m.kind) t (passes plain up Up m rest l)) (treats-same up (length (cells_of m)) a b begun)
          at (Some left) = ap (λ (t : Serving ℕ (Discipline ℕ)). cond {A = Serving ℕ (Discipline ℕ)} (is_data m.kind) t (passes plain up Up m rest l)) (treats-same up left a b begun)

  -- a call that asks for another one
  goes-at : (way : Way) (again : Bool) (l : Discipline ℕ) → Begins way again l → let t = ldterm_serves plain (record here { way = way }) 0 again None l in t.again ≡ true → GoesOn way again l t.bytes t.acted.state
  unfolding size_of
  goes-at Down again l begins works = of l.write_queue.messages works
    where
      of : (ms : List (Message ℕ)) → let t = output_serves plain (record here { way = Down }) None 0 ms l in t.again ≡ true → GoesOn Down again l t.bytes t.acted.state
      of [] works = absurd (false≢true works)
      of (m ∷ rest) works = absurd (false≢true works)
  goes-at Up true l begins works =
      let g = treats-goes (record here { way = Up }) (to_treat l) 0 l works in
      record { treat = let e = g.treat in omega arith; all = λ full. (let e = g.treat in omega arith); done = g.done; work = g.work; up = refl }
  goes-at Up false l begins works = of l.read_queue.messages refl works
    where
      of : (ms : List (Message ℕ)) → l.read_queue.messages ≡ ms → let t = input_begins plain (record here { way = Up }) None 0 ms l in t.again ≡ true → GoesOn Up false l t.bytes t.acted.state
      of [] is works = absurd (false≢true works)
      of (m ∷ rest) is works = at (is_data m.kind) refl works
        where
          up : Spot
          up = record here { way = Up }

          begun : Discipline ℕ
          begun = record l { read_queue = left_with rest l.read_queue; in_work = Some m }

          at : (treated : Bool) → is_data m.kind ≡ treated → let t = cond treated (treats plain up (length (cells_of m)) 0 begun) (passes plain up Up m rest l) in t.again ≡ true → GoesOn Up false l t.bytes t.acted.state
          at true kind works =
              let g = treats-goes up (length (cells_of m)) 0 begun works in
              let size = ap first_size is in
              let none = ap (λ stage. to_treat (record begun { stage = stage })) begins.3 in
              let whole : (false ≡ false → FullFirst l.read_queue.messages) → length (cells_of m) ≡ size_of m = λ full. subst FullFirst is (full refl) kind in
              record {
                treat = let e = g.treat in omega (arith, size, none);
                all = λ full. (let e = g.treat in omega (arith, size, none, whole full));
                done = g.done;
                work = g.work;
                up = refl;
              }
          at false kind works = absurd (false≢true works)

  -- It is the same wherever what it did is among the bytes that it may treat.
  alike-at : (way : Way) (again : Bool) (l : Discipline ℕ) → let t = ldterm_serves plain (record here { way = way }) 0 again None l in t.again ≡ true
      → (left made : ℕ) → stages_done t.acted.state.stage + 3 * t.bytes ≤ 3 * left → ldterm_serves plain (record here { way = way }) made again (Some left) l ≡ t
  alike-at Down again l works left made within = of l.write_queue.messages works
    where
      of : (ms : List (Message ℕ)) → let t = output_serves plain (record here { way = Down }) None 0 ms l in t.again ≡ true → output_serves plain (record here { way = Down }) (Some left) made ms l ≡ t
      of [] works = absurd (false≢true works)
      of (m ∷ rest) works = absurd (false≢true works)
  alike-at Up true l works left made within = treats-alike (record here { way = Up }) (to_treat l) 0 l works left made within
  alike-at Up false l works left made within = of l.read_queue.messages works within
    where
      of : (ms : List (Message ℕ)) → let t = input_begins plain (record here { way = Up }) None 0 ms l in t.again ≡ true → stages_done t.acted.state.stage + 3 * t.bytes ≤ 3 * left
          → input_begins plain (record here { way = Up }) (Some left) made ms l ≡ t
      of [] works within = refl
      of (m ∷ rest) works within = at (is_data m.kind) works within
        where
          up : Spot
          up = record here { way = Up }

          begun : Discipline ℕ
          begun = record l { read_queue = left_with rest l.read_queue; in_work = Some m }

          at : (treated : Bool) → let t = cond treated (treats plain up (length (cells_of m)) 0 begun) (passes plain up Up m rest l) in t.again ≡ true → stages_done t.acted.state.stage + 3 * t.bytes ≤ 3 * left
              → cond {A = Serving ℕ (Discipline ℕ)} treated (treats plain up left made begun) (passes plain up Up m rest l) ≡ t
          at true works within = treats-alike up (length (cells_of m)) 0 begun works left made within
          at false works within = refl

  -- The last call is the same where it may treat as much as it did, which is all that was left.
  ends-treat : (most made : ℕ) (l : Discipline ℕ) → let t = treats plain here most 0 l in t.again ≡ false → (t.bytes ≡ most) × (treats plain here t.bytes made l ≡ t)
  ends-treat most made l over =
      let t = treats plain here most 0 l in
      let bytes : t.bytes ≡ most = ap (λ again. cond again (to_treat l - to_treat t.acted.state) most) over in
      (bytes, ap (λ n. treats plain here n made l) bytes ∙ treats-same here most made 0 l)

begun-few : (stage : Stage ℕ) (l : Discipline ℕ) → stages_done stage ≤ 3 * to_treat (record l { stage = stage })
begun-few Between l = omega arith
begun-few (Begun started c) l = omega arith
begun-few (Answered echo) l = omega arith

idle-few : (l : Discipline ℕ) (n : ℕ) → IsIdle l → stages_done l.stage ≤ n
idle-few l n idle = let none = ap stages_done idle.3 in omega arith

module _ (here : Spot) where
  ends-at : (way : Way) (again : Bool) (l : Discipline ℕ) → Begins way again l → let t = ldterm_serves plain (record here { way = way }) 0 again None l in t.again ≡ false
      → Ends way again l t.bytes × ((made : ℕ) → ldterm_serves plain (record here { way = way }) made again (Some t.bytes) l ≡ t)
  unfolding size_of
  ends-at Down true l begins over =
      let e = output-ends (record here { way = Down }) l.write_queue.messages l in
      (record { treat = e.0; done = idle-few l _ begins }, e.1)
  ends-at Down false l begins over =
      let e = output-ends (record here { way = Down }) l.write_queue.messages l in
      (record { treat = e.0; done = idle-few l _ begins }, e.1)
  ends-at Up true l begins over =
      let up : Spot = record here { way = Up } in
      let e = ends-treat up (to_treat l) 0 l over in
      (record { treat = omega (arith, e.0); done = let few = begun-few l.stage l in omega (arith, few, e.0) }, λ made. (ends-treat up (to_treat l) made l over).1)
  ends-at Up false l begins over = of l.read_queue.messages refl over
    where
      of : (ms : List (Message ℕ)) → l.read_queue.messages ≡ ms → let t = input_begins plain (record here { way = Up }) None 0 ms l in t.again ≡ false
          → Ends Up false l t.bytes × ((made : ℕ) → input_begins plain (record here { way = Up }) (Some t.bytes) made ms l ≡ t)
      of [] is over = (record { treat = omega arith; done = idle-few l _ begins }, λ made. refl)
      of (m ∷ rest) is over = at (is_data m.kind) over
        where
          up : Spot
          up = record here { way = Up }

          begun : Discipline ℕ
          begun = record l { read_queue = left_with rest l.read_queue; in_work = Some m }

          at : (treated : Bool) → let t = cond treated (treats plain up (length (cells_of m)) 0 begun) (passes plain up Up m rest l) in t.again ≡ false
              → Ends Up false l t.bytes × ((made : ℕ) → cond {A = Serving ℕ (Discipline ℕ)} treated (treats plain up t.bytes made begun) (passes plain up Up m rest l) ≡ t)
          at true over =
              let e = ends-treat up (length (cells_of m)) 0 begun over in
              let size = ap first_size is in
              (record { treat = omega (arith, e.0, size); done = idle-few l _ begins }, λ made. (ends-treat up (length (cells_of m)) made begun over).1)
          at false over = (record { treat = let size = ap first_size is in omega arith; done = idle-few l _ begins }, λ made. refl)

  -- The same of a place as it is.
  pub serves-goes : (again : Bool) (l : Discipline ℕ) → Begins here.way again l → let t = ldterm_serves plain here 0 again None l in t.again ≡ true → GoesOn here.way again l t.bytes t.acted.state
  serves-goes again l begins works = goes-at here here.way again l begins works

  pub serves-alike : (again : Bool) (l : Discipline ℕ) → let t = ldterm_serves plain here 0 again None l in t.again ≡ true
      → (left made : ℕ) → stages_done t.acted.state.stage + 3 * t.bytes ≤ 3 * left → ldterm_serves plain here made again (Some left) l ≡ t
  serves-alike again l works left made within = alike-at here here.way again l works left made within

  pub serves-ends : (again : Bool) (l : Discipline ℕ) → Begins here.way again l → let t = ldterm_serves plain here 0 again None l in t.again ≡ false
      → Ends here.way again l t.bytes × ((made : ℕ) → ldterm_serves plain here made again (Some t.bytes) l ≡ t)
  serves-ends again l begins over = ends-at here.way again l begins over

  pub serves-made : (again : Bool) (stop : Option ℕ) (l : Discipline ℕ) (made : ℕ) → ldterm_serves plain here made again stop l ≡ ldterm_serves plain here 0 again stop l
  serves-made again stop l made = made-nothing here here.way again made 0 stop l
