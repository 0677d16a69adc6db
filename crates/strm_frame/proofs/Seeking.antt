-- Messages that go one after the other, as the M_IOCTL of a number is sought among them.
use Rattle.strm_frame.proofs.Prelude.{ℕ, ◌≡◌, ◌<◌, Bool, true, false, cond, List, [], ◌∷◌, length, refl, sym, ap, subst, ◌∙◌, arith}
use Rattle.strm_frame.proofs.Prelude.{nat_tests, ◌||◌, ◌==◌}
use Rattle.strm_frame.specs.Prelude.{of_all, Message, is_none_left, StoreValue, IsInHand, IsStore, dropped, in_hand, times_in, Queue, queue_in}
use Rattle.strm_frame.specs.Prelude.{messages_on, IsReady, Changes, FreesBlocks, Dequeued}
use Rattle.strm_types.specs.Dropped.{has_ioctl, is_ioctl_of}
use Rattle.strm_types.specs.Emptied.{emptied, stayed}
use Rattle.strm_types.specs.Queue as plain
use Rattle.strm_blocks.specs.Blocks.{without}
use Rattle.strm_msg.proofs.Hands.{held-is}
use Rattle.strm_queue.specs.Flows.{plain_flows}
use Rattle.strm_frame.specs.Outboxes.{message_in}
use Rattle.strm_frame.proofs.Handing.{dropped-frees}

-- all messages go
pub all-gone : (ms : List (Message ℕ)) → stayed of_all ms ≡ []
all-gone [] = refl
all-gone (m ∷ ms) = all-gone ms

-- Some messages of a queue have gone, first the first one: the marks and the writers that wait are as before, and whether the M_IOCTL is met is
-- whether it was or stands there still.
pub record Going (number : ℕ) (s t : StoreValue) (q q' : Queue) (found : Bool) : Type 0 where
  pub changes : Changes s t q q'
  pub frees : FreesBlocks s t
  pub flows : plain_flows q'.flows ≡ plain_flows q.flows
  pub no_enable : q'.no_enable ≡ q.no_enable
  pub met : (found || has_ioctl number (messages_on t q'.list)) ≡ has_ioctl number (messages_on s q.list)

-- at first all stand there
pub going-first : (number : ℕ) (s : StoreValue) (q : Queue) → IsReady s q → Going number s s q q false
going-first number s q ready = record {
  changes = record { ready = ready; list = refl; others = λ k apart. refl; hand = refl; mblks = refl; dblks = refl };
  frees = record { mblks = omega arith; dblks = omega arith };
  flows = refl;
  no_enable = refl;
  met = refl;
}

-- the message that was taken off, freed
module _ (s t : StoreValue) (q q' : Queue) (i : ℕ) (is : Dequeued s t q q' i) where
  pub taken-in_hand : IsInHand t i
  taken-in_hand = subst (λ h. times_in i h ≡ 1) (sym is.hand) (held-is s i (in_hand t i) is.fresh)

  freed-hand : without i t.hand ≡ s.hand
  freed-hand =
      let yes : (i == i) ≡ true = grind (arith, nat_tests) in
      ap (without i) is.hand ∙ ap (λ b. cond b s.hand (record { name = i; chain = in_hand t i } ∷ without i s.hand)) yes

  pub freed-changes : (u : StoreValue) → u ≡ dropped t i → Changes s u q q'
  freed-changes u u_is = subst (λ v. Changes s v q q') (sym u_is) (record {
    ready = record { messages = is.ready.messages; counted = is.ready.counted };
    list = is.list;
    others = is.others;
    hand = freed-hand;
    mblks = is.mblks;
    dblks = is.dblks;
  })

  pub freed-all : (u : StoreValue) → u ≡ dropped t i → FreesBlocks s u
  freed-all u u_is =
      let first = is.frees in
      let second = subst (λ v. FreesBlocks t v) (sym u_is) (dropped-frees t i taken-in_hand) in
      record { mblks = omega (arith, first.mblks, second.mblks); dblks = omega (arith, first.dblks, second.dblks) }

  -- it is looked at first
  pub met-first : (number : ℕ) (u : StoreValue) → u ≡ dropped t i → has_ioctl number (messages_on s q.list) ≡ (is_ioctl_of number (message_in t i) || has_ioctl number (messages_on u q'.list))
  met-first number u u_is =
      ap (has_ioctl number) is.first ∙ ap (λ v. is_ioctl_of number (message_in t i) || has_ioctl number (messages_on v q'.list)) (sym u_is)

  pub fewer : (u : StoreValue) → u ≡ dropped t i → length (messages_on u q'.list) < length (messages_on s q.list)
  fewer u u_is =
      let all = ap (λ ms. length ms) is.first in
      let same = ap (λ v. length (messages_on v q'.list)) u_is in
      omega arith

or-or : (a b c : Bool) → ((a || b) || c) ≡ (a || (b || c))
or-or true b c = refl
or-or false b c = refl

-- one more has gone
pub going-on : (number : ℕ) (r s t u : StoreValue) (p q q' : Queue) (met now : Bool) (i : ℕ) → Going number r s p q met → Dequeued s t q q' i → IsStore t → u ≡ dropped t i → now ≡ (met || is_ioctl_of number (message_in t i))
    → Going number r u p q' now
going-on number r s t u p q q' met now i was is st u_is looked =
    let c = freed-changes s t q q' i is u u_is in
    let f = freed-all s t q q' i is u u_is in
    record {
      changes = record {
        ready = c.ready;
        list = c.list ∙ was.changes.list;
        others = λ k apart. c.others k (λ e. apart (e ∙ was.changes.list)) ∙ was.changes.others k apart;
        hand = c.hand ∙ was.changes.hand;
        mblks = c.mblks ∙ was.changes.mblks;
        dblks = c.dblks ∙ was.changes.dblks;
      };
      frees = record { mblks = omega (arith, f.mblks, was.frees.mblks); dblks = omega (arith, f.dblks, was.frees.dblks) };
      flows = ap (λ (x : plain.Queue ℕ). x.flows) is.queue ∙ was.flows;
      no_enable = ap (λ (x : plain.Queue ℕ). x.no_enable) is.queue ∙ was.no_enable;
      met =
          ap (λ b. b || has_ioctl number (messages_on u q'.list)) looked ∙ or-or met (is_ioctl_of number (message_in t i)) (has_ioctl number (messages_on u q'.list))
          ∙ ap (λ b. met || b) (sym (met-first s t q q' i is number u u_is)) ∙ was.met;
    }

or-true : (b : Bool) → (b || true) ≡ true
or-true true = refl
or-true false = refl

-- none is left, and the queue wants to be read
pub gone-queue : (number : ℕ) (s t : StoreValue) (q q' : Queue) (met : Bool) → Going number s t q q' met → messages_on t q'.list ≡ [] → record (queue_in t q') { want_read = true } ≡ emptied of_all (queue_in s q)
gone-queue number s t q q' met was none =
    rw (none, was.flows, was.no_enable)
    (sym (ap (λ (ms : List (Message ℕ)). record (queue_in s q) { messages = ms; want_read = q.want_read || is_none_left ms }) (all-gone (messages_on s q.list))
    ∙ ap (λ b. record (queue_in s q) { messages = []; want_read = b }) (or-true q.want_read)))
