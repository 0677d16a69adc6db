-- Changes of one queue, one after the other.
use Rattle.std.proofs.Common.{◌≡◌, refl, sym, subst, ◌∙◌}
use Rattle.strm_types.specs.Flush.{is_data_kind}
use Rattle.strm_blocks.specs.Blocks.{StoreValue, list_at}
use Rattle.strm_msg.specs.Messages.{AreMessages}
use Rattle.strm_queue.specs.declared.queue.Queue.{Queue}
use Rattle.strm_queue.specs.Kept.{AreCounted}
use Rattle.strm_queue.specs.Stored.{Holds, IsReady, IsHeadQueue, Keeps, SameFlags}
use Rattle.strm_queue.proofs.Holding.{data-readable}

pub keeps-none : (s : StoreValue) (q : Queue) → IsReady s q → Keeps s s q q
keeps-none s q ready = record { ready = ready; holds = λ test passes h. h; list = refl; others = λ k apart. refl; hand = refl; mblks = refl; dblks = refl }

pub keeps-both : (s t u : StoreValue) (q p r : Queue) → Keeps s t q p → Keeps t u p r → Keeps s u q r
keeps-both s t u q p r first second = record {
  ready = second.ready;
  holds = λ test passes h. second.holds test passes (first.holds test passes h);
  list = second.list ∙ first.list;
  others = λ k apart. second.others k (λ e. apart (e ∙ first.list)) ∙ first.others k apart;
  hand = second.hand ∙ first.hand;
  mblks = second.mblks ∙ first.mblks;
  dblks = second.dblks ∙ first.dblks;
}

-- only the numbers and flags of the queue changed since
pub keeps-counted : (s t : StoreValue) (q p r : Queue) → Keeps s t q p → r.list ≡ p.list → AreCounted r.flows (list_at t p.list) → Keeps s t q r
keeps-counted s t q p r keeps list counted = record {
  ready = record {
    messages = subst (λ k. AreMessages (list_at t k)) (sym list) keeps.ready.messages;
    counted = subst (λ k. AreCounted r.flows (list_at t k)) (sym list) counted;
  };
  holds = λ test passes h. subst (λ k. Holds test (list_at t k)) (sym list) (keeps.holds test passes h);
  list = list ∙ keeps.list;
  others = keeps.others;
  hand = keeps.hand;
  mblks = keeps.mblks;
  dblks = keeps.dblks;
}

-- only the numbers and flags of the queue had changed before
pub keeps-from : (s t : StoreValue) (q p r : Queue) → p.list ≡ q.list → Keeps s t p r → Keeps s t q r
keeps-from s t q p r list keeps = record {
  ready = keeps.ready;
  holds = λ test passes h. keeps.holds test passes (subst (λ k. Holds test (list_at s k)) (sym list) h);
  list = keeps.list ∙ list;
  others = λ k apart. keeps.others k (λ e. apart (e ∙ list));
  hand = keeps.hand;
  mblks = keeps.mblks;
  dblks = keeps.dblks;
}

-- a head's queue is one still
pub head-kept : (s t : StoreValue) (q p : Queue) → IsHeadQueue s q → Keeps s t q p → IsHeadQueue t p
head-kept s t q p is keeps = record { ready = keeps.ready; readable = keeps.holds is_data_kind data-readable is.readable }

pub flags-both : (q p r : Queue) → SameFlags q p → SameFlags p r → SameFlags q r
flags-both q p r first second = record {
  flows = second.flows ∙ first.flows;
  want_read = λ cleared. second.want_read (first.want_read cleared);
  no_enable = second.no_enable ∙ first.no_enable;
}
