-- What each put at a module keeps of the modules of both streams, a delivery keeps.
use Rattle.strm_laws.proofs.Prelude.{ℕ, ◌-◌, List, PutHolds, set-all}
use Rattle.strm_laws.specs.Prelude.{Side, Spot, Cells, Message, put_among, is_open, AllSides, head_put}
use Rattle.strm_laws.specs.Behaviours.{Behaviour}
use Rattle.strm_laws.specs.Puts.{made_above, put_at_driver, put_at_head, put_at_module, put_in}
use Rattle.strm_laws.specs.Stacked.{Standing, module_puts}
use Rattle.strm_laws.specs.State.{State, Stream, stream, with_stream}
use Rattle.strm_laws.proofs.PutParts.{BookHolds, acted-holds, either-holds, parts-hold}

module _ {C : Type 0} (Good : Side → List (Standing C) → Type 0) where
  -- so are the modules of both streams
  abbrev pub OnBoth : State C → Type 0
  OnBoth s = AllSides (λ side t. Good side t.modules) s.ends

  with-good : (side : Side) (t : Stream C) (s : State C) → Good side t.modules → OnBoth s → OnBoth (with_stream side t s)
  with-good side t s here good = set-all (λ of u. Good of u.modules) side t s.ends here good

  pub head-good : (side : Side) (here : Spot) (m : Message C) (s : State C) → OnBoth s → OnBoth (put_at_head side here m s).state
  head-good side here m s good = either-holds OnBoth (is_open (stream side s).opened) _ _ (with-good side (record (stream side s) { head = (head_put here m (stream side s).head).state }) s (good side) good) good

  driver-good : (side : Side) (here : Spot) (m : Message C) (s : State C) → OnBoth s → OnBoth (put_at_driver side here m s).state
  driver-good side here m s good = with-good side _ s (good side) good

  pub books-good : BookHolds {C = C} OnBoth
  books-good dir n s good = good

  module _ (K : Behaviour) (cells : Cells C) (kept : (side : Side) (made i : ℕ) (here : Spot) (m : Message C) (ps : List (Standing C)) → Good side ps → Good side (put_among (module_puts K cells made) i here m ps).state) where
    stack-good : (here : Spot) (m : Message C) (s : State C) → OnBoth s → OnBoth (put_at_module K cells here m s).state
    stack-good here m s good =
        let on = stream here.side s in
        let t = put_among (module_puts K cells (made_above here.side s)) (here.at - 1) here m on.modules in
        acted-holds OnBoth (λ names s good. good) books-good here t s
        (with-good here.side (record on { modules = t.state }) s (kept here.side (made_above here.side s) (here.at - 1) here m on.modules (good here.side)) good)

    pub puts-good : PutHolds {C = C} OnBoth (put_in K cells)
    puts-good = parts-hold OnBoth K cells (record { head = head-good; stack = stack-good; driver = driver-good })
