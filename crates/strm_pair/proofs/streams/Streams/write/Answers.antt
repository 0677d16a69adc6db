-- A write is its chunks, delivered one after the other, and what they took is booked.
use Rattle.strm_pair.proofs.Prelude.{ℕ, sym, ap, ◌∙◌, arith, free_m-is}
use Rattle.strm_pair.specs.Prelude.{Count, Book, with_written, Outcome, plain, tallied, direction_from, spare, State, book, with_book, chunk_count}
use Rattle.strm_pair.specs.Prelude.{chunks_of}
use Rattle.strm_laws.proofs.Balances.{chunks-book}
use Rattle.strm_pair.specs.Pairs.{state_in}
use Rattle.strm_pair.proofs.ChunkSteps.{chunks-written, wrote-chunks}
use Rattle.strm_pair.proofs.PutBooks.{book-low, written-spare}
use Rattle.strm_pair.proofs.streams.Streams.write.Goals as goal

pub with_written-book-requires : goal.with_written-book-requires
with_written-book-requires g c =
    let s = g.B.Blocks.value c.args.store.now in
    let t = g.B.Blocks.value c.send_chunks-taken.new.store in
    let old = state_in s c.args.self.now in
    let dir = direction_from c.args.side in
    let is = ap (λ (b : Book). b.written) (c.book_of.ensures t) in
    let sent = ap (λ (v : State ℕ). (book dir v).written) c.send_chunks-taken.ensures.delivers.leads.state in
    let stays = (chunks-book plain g.M.Behaves.does c.args.side (chunks_of c.chunk_count-chunks.result c.args.bytes.now) old).written dir in
    omega (arith, book-low c.args.side old c.requires.may.range, is, sent, stays, c.send_chunks-taken.ensures.fits)

-- No more is taken than a store has blocks for.
pub overflow_cast-result : goal.overflow_cast-result
unfolding chunk_count
overflow_cast-result g c =
    let s = g.B.Blocks.value c.args.store.now in
    omega (arith, c.requires.may.room.mblks, c.send_chunks-taken.ensures.fits, c.audit.ensures.few_mblks, free_m-is s)

pub returns-clause-answer : goal.returns-clause-answer
returns-clause-answer g c =
    let s = g.B.Blocks.value c.args.store.now in
    let old = state_in s c.args.self.now in
    let e = wrote-chunks c.args.side c.args.bytes.now old c.chunk_count-chunks.result c.chunk_count-chunks.ensures.value g.M.Behaves.does in
    ap Count c.send_chunks-taken.ensures.taken ∙ ap (λ (o : Outcome ℕ). o.answer) (sym e)

pub returns-clause-delivers : goal.returns-clause-delivers
returns-clause-delivers g c =
    let K = g.M.Behaves.does in
    let s = g.B.Blocks.value c.args.store.now in
    let t = g.B.Blocks.value c.send_chunks-taken.new.store in
    let side = c.args.side in
    let n = c.send_chunks-taken.result in
    let old = state_in s c.args.self.now in
    let sent = state_in t c.send_chunks-taken.new.self in
    let dir = direction_from side in
    let e = wrote-chunks side c.args.bytes.now old c.chunk_count-chunks.result c.chunk_count-chunks.ensures.value K in
    let chunks = c.send_chunks-taken.ensures.delivers in
    let kept = c.keep_book.ensures in
    let booked = kept.state t ∙ ap (λ (b : Book). with_book dir b sent) (c.with_written-book.ensures ∙ ap (with_written n) (c.book_of.ensures t)) in
    record {
      leads = record {
        state = booked
            ∙ ap (λ k. with_book dir (with_written k (book dir sent)) sent) c.send_chunks-taken.ensures.taken
            ∙ ap (λ (v : State ℕ). with_book dir (with_written (chunks-written K side c.chunk_count-chunks.result c.args.bytes.now old).taken (book dir v)) v) chunks.leads.state
            ∙ ap (λ (o : Outcome ℕ). o.state) (sym e);
        tells = chunks.leads.tells ∙ ap (λ (o : Outcome ℕ). tallied o.gone c.args.told.now) (sym e);
        held = kept.held t chunks.leads.held;
        pool = chunks.leads.pool;
      };
      left = omega (arith, chunks.left, ap spare booked, written-spare dir n sent);
    }
