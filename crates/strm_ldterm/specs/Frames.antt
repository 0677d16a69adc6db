-- The module stands for the same where its queues' lists are the same, and so are the messages that it keeps in hand.
use Rattle.std.specs.Prelude.{ℕ, ◌≡◌, ◌<◌, List, length, map, slice_index_or, Option, None, Some, IfSome, is_some}
use Rattle.std.proofs.Common.{refl, sym, ap, subst, ◌∙◌, arith}
use Rattle.std.proofs.lemmas.Bool.{false≢true}
use Rattle.strm_types.specs.Ldterms as plain
use Rattle.strm_ldterm.specs.Prelude.{Message, cells_of, Block, StoreValue, in_hand, list_at, block_at, token, InHand, message_of, IsChain}
use Rattle.strm_ldterm.specs.Prelude.{plain_flows, QueuePair, SameOwn, queue-ready}
use Rattle.strm_frame.specs.StandingLaws.{name-once}
use Rattle.strm_frame.specs.Standings.{lists_of, queues_own}
use Rattle.strm_ldterm.specs.declared.ldterm.Ldterm.{Ldterm}
use Rattle.strm_ldterm.specs.Stands.{stage_in, cells_kept, EndsPlain, FitsQueues, HasInHand, IsData, IsOrdinary, IsGathered, Paired, owns, own_in, times_kept, kept_in, keeps, keeps_itself, ldterm_in, IsHeld}

-- a message in hand whose chain is the same
pub data-same : (s t : StoreValue) (i : ℕ) → in_hand t i ≡ in_hand s i → IsData s i → IsData t i
data-same s t i same is = record { chain = subst IsChain (sym same) is.chain; kind = ap (λ c. (block_at 0 c).kind) same ∙ is.kind }

pub ordinary-same : (s t : StoreValue) (i : ℕ) → in_hand t i ≡ in_hand s i → IsOrdinary s i → IsOrdinary t i
ordinary-same s t i same is = record { are = data-same s t i same is.are; band = ap (λ c. (block_at 0 c).band) same ∙ is.band }

pub gathered-same : (s t : StoreValue) (i : ℕ) → in_hand t i ≡ in_hand s i → IsGathered s i → IsGathered t i
gathered-same s t i same is = record { are = ordinary-same s t i same is.are; some = subst (λ c. 0 < length (cells_of (message_of c))) (sym same) is.some }

-- messages that are kept, and whose chains are the same
pub kept-same : (s t : StoreValue) (o : Option InHand) → ((i : ℕ) → 0 < times_kept o i → in_hand t i ≡ in_hand s i) → kept_in t o ≡ kept_in s o
unfolding times_kept
kept-same s t None same = refl
kept-same s t (Some m) same = let one = name-once (token m) in ap (λ c. Some (message_of c)) (same (token m) (omega arith))

pub each-same : (s t : StoreValue) (P : StoreValue → ℕ → Type 0) → ((i : ℕ) → in_hand t i ≡ in_hand s i → P s i → P t i) → (o : Option InHand) → ((i : ℕ) → 0 < times_kept o i → in_hand t i ≡ in_hand s i)
    → IfSome o (λ m. P s (token m)) → IfSome o (λ m. P t (token m))
unfolding times_kept
each-same s t P stays None same is = tt
each-same s t P stays (Some m) same is = let one = name-once (token m) in stays (token m) (same (token m) (omega arith)) is

-- what it stands for, by its lists and what it keeps
abbrev pub form : Paired → List (List Block) → List (List Block) → Option (Message ℕ) → Option (Message ℕ) → plain.Discipline ℕ
form x reads writes work gathers = record {
  termios = x.termios;
  stopped = x.stopped;
  after_lnext = x.after_lnext;
  column = x.column;
  line = x.line;
  read_queue = record { messages = map message_of reads; flows = plain_flows x.read_queue.flows; want_read = x.read_queue.want_read; no_enable = x.read_queue.no_enable };
  write_queue = record { messages = map message_of writes; flows = plain_flows x.write_queue.flows; want_read = x.write_queue.want_read; no_enable = x.write_queue.no_enable };
  in_work = work;
  gathered = cells_kept gathers;
  echoing = x.echoing;
  stage = stage_in x.stage;
}

pub form-same : (x : Paired) (a a' b b' : List (List Block)) (k k' l l' : Option (Message ℕ)) → a ≡ a' → b ≡ b' → k ≡ k' → l ≡ l' → form x a b k l ≡ form x a' b' k' l'
form-same x a a' b b' k k' l l' ea eb ek el =
    ap (λ v. form x v b k l) ea ∙ ap (λ v. form x a' v k l) eb ∙ ap (λ v. form x a' b' v l) ek ∙ ap (λ v. form x a' b' k' v) el

pub ldterm-frame : (s t : StoreValue) (x : Paired) → SameOwn s t (owns x) (keeps x) → IsHeld s x → (ldterm_in t x ≡ ldterm_in s x) × IsHeld t x
ldterm-frame s t x same held =
    let one = name-once x.read_queue.list in
    let two = name-once x.write_queue.list in
    let reads = same.lists x.read_queue.list (omega arith) in
    let writes = same.lists x.write_queue.list (omega arith) in
    let work : (i : ℕ) → 0 < times_kept x.in_work i → in_hand t i ≡ in_hand s i = λ i some. same.kept i (omega arith) in
    let gathers : (i : ℕ) → 0 < times_kept x.gathered i → in_hand t i ≡ in_hand s i = λ i some. same.kept i (omega arith) in (
      form-same x _ _ _ _ _ _ _ _ reads writes (kept-same s t x.in_work work) (kept-same s t x.gathered gathers),
      record {
        read = queue-ready s t x.read_queue reads held.read;
        write = queue-ready s t x.write_queue writes held.write;
        apart = held.apart;
        work = each-same s t IsData (data-same s t) x.in_work work held.work;
        gathers = each-same s t IsGathered (gathered-same s t) x.gathered gathers held.gathers;
        echoes = λ on busy. subst (λ l. EndsPlain (map message_of l)) (sym writes) (held.echoes on busy);
        once_each = held.once_each;
      },
    )

-- the module by itself, by what it keeps
abbrev own-form : Ldterm → Option (Message ℕ) → Option (Message ℕ) → plain.Ldterm ℕ
own-form x work gathers = record {
  termios = x.termios;
  stopped = x.stopped;
  after_lnext = x.after_lnext;
  column = x.column;
  line = x.line;
  in_work = work;
  gathered = cells_kept gathers;
  echoing = x.echoing;
  stage = stage_in x.stage;
}

own-same : (x : Ldterm) (k k' l l' : Option (Message ℕ)) → k ≡ k' → l ≡ l' → own-form x k l ≡ own-form x k' l'
own-same x k k' l l' ek el = ap (λ v. own-form x v l) ek ∙ ap (own-form x k') el

module _ (s t : StoreValue) (x : Ldterm) where
  -- it stands for the same, and fits, wherever the lists of its queues are the same and what it keeps is
  module _ (q r : QueuePair) (lists : lists_of (Some r) ≡ lists_of (Some q)) (same : SameOwn s t (queues_own (Some q)) (keeps_itself x)) (held : FitsQueues s x q) where
    write-listed : list_at t r.write.list ≡ list_at s q.write.list
    write-listed = ap (λ l. list_at t (slice_index_or l 1 0)) lists ∙ same.lists q.write.list (let one = name-once q.write.list in omega arith)

    work-same : (i : ℕ) → 0 < times_kept x.in_work i → in_hand t i ≡ in_hand s i
    work-same i some = same.kept i (omega arith)

    gathers-same : (i : ℕ) → 0 < times_kept x.gathered i → in_hand t i ≡ in_hand s i
    gathers-same i some = same.kept i (omega arith)

    fits-still : (own_in t x ≡ own_in s x) × FitsQueues t x r
    fits-still = (
      own-same x _ _ _ _ (kept-same s t x.in_work work-same) (kept-same s t x.gathered gathers-same),
      record {
        work = each-same s t IsData (data-same s t) x.in_work work-same held.work;
        gathers = each-same s t IsGathered (gathered-same s t) x.gathered gathers-same held.gathers;
        echoes = λ on busy. subst (λ l. EndsPlain (map message_of l)) (sym write-listed) (held.echoes on busy);
        once_each = held.once_each;
      },
    )

  pub own-frame : (queues others : Option QueuePair) → lists_of others ≡ lists_of queues → SameOwn s t (queues_own queues) (keeps_itself x) → HasInHand s x queues
      → (own_in t x ≡ own_in s x) × HasInHand t x others
  own-frame None others lists same held = absurd held
  own-frame (Some q) None lists same held = absurd (cc lists)
  own-frame (Some q) (Some r) lists same held = fits-still q r lists same held

  -- and where it keeps nothing, whatever stands on them
  none-there : (o : Option InHand) → ((i : ℕ) → times_kept o i ≡ 0) → o ≡ None
  unfolding times_kept
  none-there None none = refl
  none-there (Some m) none = let one = name-once (token m) in let no = none (token m) in absurd (omega arith)

  module _ (none : (i : ℕ) → keeps_itself x i ≡ 0) where
    no-work : x.in_work ≡ None
    no-work = none-there x.in_work (λ i. omega (arith, none i))

    none-gathered : x.gathered ≡ None
    none-gathered = none-there x.gathered (λ i. omega (arith, none i))

    rests-fit : (r : QueuePair) → (own_in t x ≡ own_in s x) × FitsQueues t x r
    rests-fit r = (
      own-same x _ _ _ _ (ap (kept_in t) no-work ∙ sym (ap (kept_in s) no-work)) (ap (kept_in t) none-gathered ∙ sym (ap (kept_in s) none-gathered)),
      record {
        work = subst (λ o. IfSome o (λ m. IsData t (token m))) (sym no-work) tt;
        gathers = subst (λ o. IfSome o (λ m. IsGathered t (token m))) (sym none-gathered) tt;
        echoes = λ on busy. absurd (false≢true (sym (ap is_some no-work) ∙ busy));
        once_each = λ i. omega (arith, none i);
      },
    )

  pub own-rested : (queues others : Option QueuePair) → lists_of others ≡ lists_of queues → ((i : ℕ) → keeps_itself x i ≡ 0) → HasInHand s x queues
      → (own_in t x ≡ own_in s x) × HasInHand t x others
  own-rested None others lists none held = absurd held
  own-rested (Some q) None lists none held = absurd (cc lists)
  own-rested (Some q) (Some r) lists none held = rests-fit none r
