use Rattle.std.proofs.Common.{◌≡◌, ◌∙◌, true, false, refl, sym}
use Rattle.strm_types.specs.Message.{is_high_priority}
use Rattle.strm_types.specs.Flush.{is_data_kind}
use Rattle.strm_blocks.proofs.kinds.is_flushed.Goals as goal
use Rattle.strm_blocks.proofs.kinds.is_flushed.Goals.{then-is_high_priority, else-is_high_priority}

pub returns-then-is_data_kind : goal.returns-then-is_data_kind
returns-then-is_data_kind c =
    let named : is_data_kind c.args.kind ≡ true = sym c.is_data_kind-in-Some.ensures ∙ c.if-is_data_kind.true in
    elim c.if-is_high_priority.branch [
      | then-is_high_priority w ↦ (let high : is_high_priority c.args.kind ≡ true = sym c.is_high_priority.ensures ∙ w.if-is_high_priority.true in
          rw (w.counted-is, c.in-Some.is, named, high) refl)
      | else-is_high_priority w ↦ (let low : is_high_priority c.args.kind ≡ false = sym c.is_high_priority.ensures ∙ w.if-is_high_priority.false in
          rw (w.counted-is, c.in-Some.is, named, low) refl)
    ]
