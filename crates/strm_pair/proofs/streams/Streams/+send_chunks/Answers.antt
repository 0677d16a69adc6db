-- A chunk goes, and the rest is a write of the other chunks.
use Rattle.strm_pair.proofs.Prelude.{◌≡◌, ◌-◌, ◌+◌, ℕ, suc, length, sym, ap, subst, ◌∙◌, arith, delivered-idle}
use Rattle.strm_pair.specs.Prelude.{plain, data_message, chunks_of, Wrote, below_head, chunks_sent, delivered}
use Rattle.strm_pair.specs.Pairs.{state_in}
use Rattle.strm_pair.specs.Effects.{Delivers}
use Rattle.strm_pair.proofs.ChunkSteps.{chunks-none, chunks-full, chunks-more}
use Rattle.strm_pair.proofs.DataLemmas.{front-256, back-256}
use Rattle.strm_pair.proofs.Enabling.{delivered-few}
use Rattle.strm_pair.proofs.Leading.{leads-both, leads-nowhere, rests-behind}
use Rattle.strm_frame.proofs.WidePools.{room-left, wide-on}
use Rattle.strm_pair.proofs.streams.Streams.+send_chunks.Goals as goal

pub returns-then-chunks-eq0-clause-taken : goal.returns-then-chunks-eq0-clause-taken
returns-then-chunks-eq0-clause-taken g t c =
    let old = state_in (g.B.Blocks.value c.args.store.now) c.args.self.now in
    ap (λ (w : Wrote ℕ). w.taken) (sym (chunks-none g.M.Behaves.does c.args.side old c.args.chunks c.args.bytes.now c.if-chunks-eq0.true))

pub returns-then-chunks-eq0-clause-delivers : goal.returns-then-chunks-eq0-clause-delivers
returns-then-chunks-eq0-clause-delivers g t c =
    let K = g.M.Behaves.does in
    let s = g.B.Blocks.value c.args.store.now in
    let p = c.args.self.now in
    let f = c.args.told.now in
    subst (λ (w : Wrote ℕ). Delivers s s p p f f w.state w.gone 0) (sym (chunks-none K c.args.side (state_in s p) c.args.chunks c.args.bytes.now c.if-chunks-eq0.true))
    (record { leads = leads-nowhere s p f c.requires.rests.held; left = omega arith })

pub returns-then-is_full_below-clause-taken : goal.returns-then-is_full_below-clause-taken
returns-then-is_full_below-clause-taken g t c =
    let K = g.M.Behaves.does in
    let old = state_in (g.B.Blocks.value c.args.store.now) c.args.self.now in
    ap (λ (w : Wrote ℕ). w.taken) (sym (chunks-full K c.args.side old c.args.chunks c.args.bytes.now (sym c.is_full_below.ensures ∙ c.if-is_full_below.true)))

pub returns-then-is_full_below-clause-delivers : goal.returns-then-is_full_below-clause-delivers
returns-then-is_full_below-clause-delivers g t c =
    let K = g.M.Behaves.does in
    let s = g.B.Blocks.value c.args.store.now in
    let p = c.args.self.now in
    let f = c.args.told.now in
    subst (λ (w : Wrote ℕ). Delivers s s p p f f w.state w.gone 0) (sym (chunks-full K c.args.side (state_in s p) c.args.chunks c.args.bytes.now (sym c.is_full_below.ensures ∙ c.if-is_full_below.true)))
    (record { leads = leads-nowhere s p f c.requires.rests.held; left = omega arith })

-- Nothing of a turn is under way behind a chunk.
pub send_chunks-more-requires : goal.send_chunks-more-requires
send_chunks-more-requires g t c κs within =
    let K = g.M.Behaves.does in
    let s = g.B.Blocks.value c.args.store.now in
    let mid = g.B.Blocks.value c.send_chunk.new.store in
    let old = state_in s c.args.self.now in
    let some = c.if-chunks-eq0.false in
    let chunk = data_message c.split_at.result.0.now in
    let sent = delivered K plain (below_head c.args.side) chunk old in
    let rests = rests-behind s mid c.send_chunk.new.self c.args.told.now c.send_chunk.new.told sent.state sent.gone c.send_chunk.ensures.delivers.leads (delivered-idle K plain (below_head c.args.side) chunk old c.requires.rests.idle)
    (delivered-few old c.requires.rests.enabled K (below_head c.args.side) chunk) in
    let left = room-left s mid c.args.chunks 1 (c.args.chunks - 1) (omega (arith, some)) c.requires.room c.send_chunk.ensures.spends in
    let pool = c.send_chunk.ensures.delivers.leads.pool in
    (omega arith, (within.0, (within.1, (rests, (left, wide-on g.M.OwnModule.wide s mid pool.mblks pool.dblks c.requires.wide)))))

pub returns-clause-taken : goal.returns-clause-taken
returns-clause-taken g t c =
    let K = g.M.Behaves.does in
    let old = state_in (g.B.Blocks.value c.args.store.now) c.args.self.now in
    let mid = state_in (g.B.Blocks.value c.send_chunk.new.store) c.send_chunk.new.self in
    let chunk = c.split_at.result.0.now in
    let count : c.args.chunks ≡ suc (c.args.chunks - 1) = omega arith in
    let e = chunks-more K c.args.side old c.args.chunks (c.args.chunks - 1) c.args.bytes.now chunk c.split_at.result.1.now mid count (sym c.is_full_below.ensures ∙ c.if-is_full_below.false)
    (c.split_at.ensures.front ∙ front-256 _ _ c.min.ensures) (c.split_at.ensures.back ∙ back-256 _ _ c.min.ensures) c.send_chunk.ensures.delivers.leads.state in
    ap (λ n. length chunk + n) c.send_chunks-more.ensures.taken ∙ sym (ap (λ (w : Wrote ℕ). w.taken) e)

pub returns-clause-delivers : goal.returns-clause-delivers
returns-clause-delivers g t c =
    let K = g.M.Behaves.does in
    let s = g.B.Blocks.value c.args.store.now in
    let u = g.B.Blocks.value c.send_chunk.new.store in
    let new = g.B.Blocks.value c.send_chunks-more.new.store in
    let old = state_in s c.args.self.now in
    let mid = state_in u c.send_chunk.new.self in
    let f = c.args.told.now in
    let chunk = c.split_at.result.0.now in
    let rest = c.split_at.result.1.now in
    let count : c.args.chunks ≡ suc (c.args.chunks - 1) = omega arith in
    let one = c.send_chunk.ensures.delivers in
    let others = c.send_chunks-more.ensures.delivers in
    let sent = delivered K plain (below_head c.args.side) (data_message chunk) old in
    let more = chunks_sent K plain c.args.side (chunks_of (c.args.chunks - 1) rest) mid in
    let e = chunks-more K c.args.side old c.args.chunks (c.args.chunks - 1) c.args.bytes.now chunk rest mid count (sym c.is_full_below.ensures ∙ c.if-is_full_below.false)
    (c.split_at.ensures.front ∙ front-256 _ _ c.min.ensures) (c.split_at.ensures.back ∙ back-256 _ _ c.min.ensures) one.leads.state in
    subst (λ (w : Wrote ℕ). Delivers s new c.args.self.now c.send_chunks-more.new.self f c.send_chunks-more.new.told w.state w.gone 0) (sym e)
    (record {
      leads = leads-both s u new c.send_chunk.new.self c.send_chunks-more.new.self f c.send_chunk.new.told c.send_chunks-more.new.told sent (record { state = more.state; gone = more.gone }) one.leads others.leads;
      left = omega (arith, one.left, others.left);
    })
