-- The messages of a queue in a text, one after the other, and the queue on which they are put.
use Rattle.strm_pair.proofs.Prelude.{ℕ, suc, ◌≡◌, ◌≤◌, ◌+◌, Bool, true, false, cond, List, [], ◌∷◌, ◌++◌, refl, sym, ap, subst, ◌∙◌, arith}
use Rattle.strm_pair.proofs.Prelude.{append-nil, append_assoc, option_map, sum_by, nat_le, and_parts, nat_tests, sum_by-cons, sum_by-append}
use Rattle.strm_pair.specs.Prelude.{Message, rank_of, StoreValue, HasRoom, messages_on, queue_in, IsReady, Changes, QueueKind, Version, gather_from}
use Rattle.strm_pair.specs.Prelude.{◌>>=◌, blocks_of, message, messages_now, values_read}
use Rattle.std.proofs.Common.{Option, None, Some}
use Rattle.std.specs.List.{AllByRecursion}
use Rattle.std.proofs.lemmas.Option.{same_Some}
use Rattle.strm_types.specs.declared.limits.TheConstants.{HIGH_PRIORITY_RANK}
use Rattle.strm_queue.specs.declared.queue.Queue.{Queue}
use Rattle.strm_image.specs.declared.passed.MessagesText.{MessagesText}
use Rattle.strm_image.specs.declared.versions.Load.{Load}
use Rattle.strm_image.specs.Format.{before, read_from}
use Rattle.strm_image.specs.Loads.{add_message, no_load}
use Rattle.strm_image.specs.Messages.{may_follow, message_behind, next_rank}
use Rattle.strm_image.proofs.Formats.{bind_some, gather_some}
use Rattle.strm_pair.specs.Runs.{Spent, with_messages}

-- ---- what is read

-- a message behind one of a rank has no higher rank
passes : (m : Message ℕ) (rest : List ℕ) (at : QueueKind) (rank : ℕ) (o : Option (Message ℕ × List ℕ)) → (o >>= λ x. cond (may_follow at rank x.0) (Some x) None) ≡ Some (m, rest) → may_follow at rank m ≡ true
passes m rest at rank None e = absurd cc
passes m rest at rank (Some x) e = by (may_follow at rank x.0) refl e
  where
    by : (b : Bool) → may_follow at rank x.0 ≡ b → cond b (Some x) None ≡ Some (m, rest) → may_follow at rank m ≡ true
    by true is e = subst (λ (y : Message ℕ × List ℕ). may_follow at rank y.0 ≡ true) (same_Some x (m, rest) e) is
    by false is e = absurd cc

no-higher : (a b : ℕ) → nat_le a b ≡ true → a ≤ b
no-higher a b le = grind (arith, nat_tests)

module _ (v : Version) (at : QueueKind) where
  pub behind-rank : (rank : ℕ) (bytes : List ℕ) (m : Message ℕ) (rest : List ℕ) → (message_behind v at rank).read bytes ≡ Some (m, rest) → rank_of m ≤ rank
  unfolding message_behind
  behind-rank rank bytes m rest e = no-higher (rank_of m) rank (and_parts _ _ (passes m rest at rank ((message v).read bytes) e)).1

  -- messages that are read one after the other
  abbrev pub reads : ℕ → ℕ → List ℕ → Option (List (Message ℕ) × List ℕ)
  reads rank count bytes = read_from next_rank (message_behind v at) rank count bytes

  -- the first one of them, and the rest
  pub reads-first : (rank count : ℕ) (bytes : List ℕ) (m : Message ℕ) (rest : List ℕ) (todo : List (Message ℕ)) (end : List ℕ) → (message_behind v at rank).read bytes ≡ Some (m, rest) → reads rank (suc count) bytes ≡ Some (todo, end)
      → (more : List (Message ℕ)) × (todo ≡ m ∷ more) × (reads (rank_of m) count rest ≡ Some (more, end))
  reads-first rank count bytes m rest todo end first all =
      let here : (reads (rank_of m) count rest >>= λ xs. before m xs) ≡ Some (todo, end) = ap (λ (o : Option (Message ℕ × List ℕ)). o >>= λ x. reads (rank_of x.0) count x.1 >>= λ xs. before x.0 xs) (sym first) ∙ all in
      let a = bind_some (reads (rank_of m) count rest) (λ xs. before m xs) (todo, end) here in
      let both = same_Some (m ∷ a.0.0, a.0.1) (todo, end) a.2 in
      (a.0.0, ap (λ (x : List (Message ℕ) × List ℕ). x.0) (sym both), a.1 ∙ ap (λ (e : List ℕ). Some (a.0.0, e)) (ap (λ (x : List (Message ℕ) × List ℕ). x.1) both))

  pub reads-some : (rank count : ℕ) (bytes : List ℕ) (x : List (Message ℕ) × List ℕ) → (message_behind v at rank).read bytes ≡ None → reads rank (suc count) bytes ≡ Some x → ⊥
  reads-some rank count bytes x none all =
      let here : None ≡ Some x = ap (λ (o : Option (Message ℕ × List ℕ)). o >>= λ x. reads (rank_of x.0) count x.1 >>= λ xs. before x.0 xs) (sym none) ∙ all in cc

-- ---- how far a queue is

pub record Filling (text : MessagesText) (s now : StoreValue) (q q' : Queue) (rank left : ℕ) (rest : List ℕ) : Type 0 where
  pub done : List (Message ℕ)
  pub todo : List (Message ℕ)
  pub end : List ℕ
  pub joined : messages_now text ≡ done ++ todo
  pub read : reads text.version text.queue rank left rest ≡ Some (todo, end)
  pub queue : queue_in now q' ≡ with_messages done (queue_in s q)
  pub ranks : AllByRecursion (λ m. rank ≤ rank_of m) done
  pub changes : Changes s now q q'
  pub spent : Spent s now (sum_by blocks_of done)

-- nothing is done
pub filling-none : (text : MessagesText) (s : StoreValue) (q : Queue) (left : ℕ) → left ≡ text.count → IsReady s q → messages_on s q.list ≡ [] → Filling text s s q q HIGH_PRIORITY_RANK left text.text.now
filling-none text s q left whole ready empty = subst (λ n. Filling text s s q q HIGH_PRIORITY_RANK n text.text.now) (sym whole) (found _ refl text.there)
  where
    found : (o : Option (Load × List ℕ)) → gather_from next_rank (message_behind text.version text.queue) add_message no_load HIGH_PRIORITY_RANK text.count text.text.now ≡ o → option_map (λ x. x.0) o ≡ Some text.load → Filling text s s q q HIGH_PRIORITY_RANK text.count text.text.now
    found None told e = absurd cc
    found (Some x) told e =
        let a = gather_some next_rank (message_behind text.version text.queue) add_message no_load HIGH_PRIORITY_RANK text.count text.text.now x told in
        record {
          done = [];
          todo = a.0;
          end = x.1;
          joined = ap (λ (o : Option (List (Message ℕ) × List ℕ)). values_read o) a.1;
          read = a.1;
          queue = ap (λ ms. with_messages ms (queue_in s q)) empty;
          ranks = tt;
          changes = record { ready = ready; list = refl; others = λ k apart. refl; hand = refl; mblks = refl; dblks = refl };
          spent = record { mblks = omega arith; dblks = omega arith };
        }

lower : (rank low : ℕ) (ms : List (Message ℕ)) → low ≤ rank → AllByRecursion (λ m. rank ≤ rank_of m) ms → AllByRecursion (λ m. low ≤ rank_of m) ms
lower rank low [] le all = tt
lower rank low (m ∷ ms) le all = (omega (arith, le, all.0), lower rank low ms le all.1)

with-last : (rank : ℕ) (m : Message ℕ) (ms : List (Message ℕ)) → rank ≤ rank_of m → AllByRecursion (λ m. rank ≤ rank_of m) ms → AllByRecursion (λ m. rank ≤ rank_of m) (ms ++ m ∷ [])
with-last rank m [] le all = (le, tt)
with-last rank m (x ∷ ms) le all = (all.0, with-last rank m ms le all.1)

changes-again : (s t u : StoreValue) (q r p : Queue) → Changes s t q r → Changes t u r p → Changes s u q p
changes-again s t u q r p a b = record {
  ready = b.ready;
  list = b.list ∙ a.list;
  others = λ k apart. b.others k (λ e. apart (e ∙ a.list)) ∙ a.others k apart;
  hand = b.hand ∙ a.hand;
  mblks = b.mblks ∙ a.mblks;
  dblks = b.dblks ∙ a.dblks;
}

module _ {text : MessagesText} {s now : StoreValue} {q q' : Queue} {rank left : ℕ} {rest : List ℕ} (f : Filling text s now q q' rank left rest) where
  stands : messages_on now q'.list ≡ f.done
  stands = ap (λ x. x.messages) f.queue

  -- the next message
  module _ (count : ℕ) (one_more : left ≡ suc count) (m : Message ℕ) (after : List ℕ) (first : (message_behind text.version text.queue rank).read rest ≡ Some (m, after)) where
    next : (more : List (Message ℕ)) × (f.todo ≡ m ∷ more) × (reads text.version text.queue (rank_of m) count after ≡ Some (more, f.end))
    next = reads-first text.version text.queue rank count rest m after f.todo f.end first (ap (λ n. reads text.version text.queue rank n rest) (sym one_more) ∙ f.read)

    low : rank_of m ≤ rank
    low = behind-rank text.version text.queue rank rest m after first

    pub next-last : AllByRecursion (λ x. rank_of m ≤ rank_of x) (messages_on now q'.list)
    next-last = subst (λ ms. AllByRecursion (λ (x : Message ℕ). rank_of m ≤ rank_of x) ms) (sym stands) (lower rank (rank_of m) f.done low f.ranks)

    all : sum_by blocks_of (messages_now text) ≡ sum_by blocks_of f.done + (blocks_of m + sum_by blocks_of next.0)
    all =
        ap (λ ms. sum_by blocks_of ms) (f.joined ∙ ap (λ ms. f.done ++ ms) next.1)
        ∙ omega (arith, sum_by-append blocks_of f.done (m ∷ next.0), sum_by-cons blocks_of m next.0)

    pub next-room : HasRoom s (sum_by blocks_of (messages_now text)) → HasRoom now (blocks_of m)
    next-room room = record { mblks = omega (arith, room.mblks, f.spent.mblks, all); dblks = omega (arith, room.dblks, f.spent.dblks, all) }

    pub filling-next : (new : StoreValue) (p : Queue) (now_rank : ℕ) → now_rank ≡ rank_of m → queue_in new p ≡ with_messages (messages_on now q'.list ++ m ∷ []) (queue_in now q') → Changes now new q' p → Spent now new (blocks_of m) → Filling text s new q p now_rank count after
    filling-next new p now_rank is queue changes spent =
        let sum : sum_by blocks_of (f.done ++ m ∷ []) ≡ sum_by blocks_of f.done + blocks_of m = omega (arith, sum_by-append blocks_of f.done (m ∷ []), sum_by-cons blocks_of m []) in
        let here : Filling text s new q p (rank_of m) count after = record {
          done = f.done ++ m ∷ [];
          todo = next.0;
          end = f.end;
          joined = f.joined ∙ ap (λ ms. f.done ++ ms) next.1 ∙ sym (append_assoc f.done (m ∷ []) next.0);
          read = next.2;
          queue = queue ∙ ap (λ ms. with_messages (ms ++ m ∷ []) (queue_in now q')) stands ∙ ap (λ x. with_messages (f.done ++ m ∷ []) x) f.queue;
          ranks = with-last (rank_of m) m f.done (omega arith) (lower rank (rank_of m) f.done low f.ranks);
          changes = changes-again s now new q q' p f.changes changes;
          spent = record { mblks = omega (arith, f.spent.mblks, spent.mblks, sum); dblks = omega (arith, f.spent.dblks, spent.dblks, sum) };
        } in
        subst (λ r. Filling text s new q p r count after) (sym is) here

  pub never-none : (count : ℕ) → left ≡ suc count → (message_behind text.version text.queue rank).read rest ≡ None → ⊥
  never-none count one_more none = reads-some text.version text.queue rank count rest (f.todo, f.end) none (ap (λ n. reads text.version text.queue rank n rest) (sym one_more) ∙ f.read)

  -- all is done
  module _ (none : left ≡ 0) where
    over : messages_now text ≡ f.done
    over =
        let end : Some ([], rest) ≡ Some (f.todo, f.end) = ap (λ n. reads text.version text.queue rank n rest) (sym none) ∙ f.read in
        f.joined ∙ ap (λ ms. f.done ++ ms) (ap (λ (x : List (Message ℕ) × List ℕ). x.0) (sym (same_Some ([], rest) (f.todo, f.end) end))) ∙ append-nil f.done

    pub filled-queue : queue_in now q' ≡ with_messages (messages_now text) (queue_in s q)
    filled-queue = f.queue ∙ ap (λ ms. with_messages ms (queue_in s q)) (sym over)

    pub filled-spent : Spent s now (sum_by blocks_of (messages_now text))
    filled-spent = let sum = ap (λ ms. sum_by blocks_of ms) over in record { mblks = omega (arith, f.spent.mblks, sum); dblks = omega (arith, f.spent.dblks, sum) }
