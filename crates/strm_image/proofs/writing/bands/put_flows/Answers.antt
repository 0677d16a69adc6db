use Rattle.std.proofs.Common.{◌≡◌, ◌∙◌, ◌++◌, List, ℕ, [], ◌∷◌, ap, arith, length, sym}
use Rattle.std.specs.List.{flat_map}
use Rattle.strm_image.specs.Format.{byte, u16, ◌then◌}
use Rattle.strm_image.specs.FlowTexts.{flow_now}
use Rattle.strm_image.specs.Queues.{first_flow, flow, listed}
use Rattle.strm_image.specs.Sinks.{Given, put}
use Rattle.strm_image.proofs.BandRows.{flows_told}
use Rattle.strm_image.proofs.SinkRows.{put_both, put_nothing}
use Rattle.strm_image.proofs.writing.bands.put_flows.Goals as goal

-- no text is put of none
put_none : {A : Type 0} (f : A → List ℕ) (xs : List A) (g : Given) → length xs ≡ 0 → g ≡ put (flat_map f xs) g
put_none f [] g none = sym (put_nothing g)
put_none f (x ∷ xs) g none = absurd (omega arith)

pub returns : goal.returns
returns g c =
    let fs = g.B.Bands.flows c.args.bands.now in
    rw (c.put_listed.ensures, c.put_u16.ensures, c.count_listed-count.ensures.value, c.first_flow-first.ensures, flows_told c.args.at fs)
    (put_both (u16.text (length (listed (first_flow c.args.at) 0 fs))) (flat_map (byte then flow).text (listed (first_flow c.args.at) 0 fs)) c.args.out.now)

pub returns-then-count-eq0 : goal.returns-then-count-eq0
returns-then-count-eq0 g c =
    let fs = g.B.Bands.flows c.args.bands.now in
    let first = flow_now c.first_flow-first.result in
    let none : length (listed first 0 fs) ≡ 0 = sym c.count_listed-count.ensures.value ∙ c.if-count-eq0.true in
    c.put_u16.ensures ∙ ap (λ n. put (u16.text n) c.args.out.now) c.count_listed-count.ensures.value
    ∙ put_none (byte then flow).text (listed first 0 fs) (put (u16.text (length (listed first 0 fs))) c.args.out.now) none
    ∙ put_both (u16.text (length (listed first 0 fs))) (flat_map (byte then flow).text (listed first 0 fs)) c.args.out.now
    ∙ ap (λ xs. put xs c.args.out.now) (ap (λ f. u16.text (length (listed f 0 fs)) ++ flat_map (byte then flow).text (listed f 0 fs)) c.first_flow-first.ensures ∙ sym (flows_told c.args.at fs))
