-- The first message of a queue is taken into the hand, where the module keeps none there.
use Rattle.strm_ldterm.proofs.Prelude.{ℕ, ◌≡◌, ◌<◌, ◌+◌, eqb, Bool, true, false, cond, List, [], ◌∷◌, length, map, refl, sym, ap, subst, ◌∙◌, arith}
use Rattle.strm_ldterm.proofs.Prelude.{◌&&◌, Option, None, Some, nat_lt, not, unwrap_or, false≢true, nat_tests, sum_by-cons, in_hand-held_other}
use Rattle.strm_ldterm.proofs.Prelude.{kind-is, data_in, data-shown, data_in-cells, once-self, once-apart, one-parts, one-chains, no-parts}
use Rattle.strm_ldterm.proofs.Prelude.{none-chains}
use Rattle.strm_ldterm.specs.Prelude.{MsgKind, Up, Down, Fates, Spot, toward, is_data, input_begins, passes, treats, sends, Message, cells_of}
use Rattle.strm_ldterm.specs.Prelude.{size_of, output_serves, is_none_left, left_with, Serving, opost, Block, Held, StoreValue, IsStore, in_hand}
use Rattle.strm_ldterm.specs.Prelude.{list_at, block_at, held, times_in, chain_in, token, InHand, data_bytes, message_of, IsChain, Queue, messages_on}
use Rattle.strm_ldterm.specs.Prelude.{Sent, once, OnlyOwn, message_in, times_sent, parcels_in, AreChains, queue-ready}
use Rattle.strm_types.specs.declared.kinds.MsgKind.TheVariants as kinds
use Rattle.strm_types.specs.Cells as cells
use Rattle.strm_types.specs.Input.{nothing_served}
use Rattle.strm_types.specs.Ldterms as ldterms
use Rattle.strm_types.specs.Queue as plain
use Rattle.strm_msg.proofs.Chains.{data_in-size}
use Rattle.strm_queue.specs.Stored.{Dequeued}
use Rattle.strm_ldterm.specs.Stands.{ldterm_in, owns, times_kept, keeps, IsHeld, Paired}
use Rattle.strm_ldterm.specs.Bounds.{goes_out, passes_whole}
use Rattle.strm_ldterm.specs.Does.{Proceeds}
use Rattle.strm_ldterm.specs.Frames.{form-same}
use Rattle.strm_ldterm.specs.Began.{BeganWhole, BeganWork}
use Rattle.strm_ldterm.specs.Outgone.{BeganOutput, PassedDown, output_of}
use Rattle.strm_ldterm.proofs.OutWhole.{goes-whole}

-- what stands on an empty list
pub none-there : (chains : List (List Block)) → plain.is_none_left chains ≡ true → map message_of chains ≡ []
none-there [] is = refl
none-there (chain ∷ chains) is = absurd (cc)

-- the size of M_DATA is that of its cells
pub data-size : (chain : List Block) → IsChain chain → (block_at 0 chain).kind ≡ kinds.Data → size_of (message_of chain) ≡ length (cells_of (message_of chain))
data-size chain one is =
    let shown = data-shown chain one.some is in
    let band = (block_at 0 chain).band in
    ap size_of shown ∙ data_in-size band (data_bytes chain) ∙ ap length (sym (ap cells_of shown ∙ data_in-cells band (data_bytes chain)))

-- a module that keeps nothing in hand, and echoes nothing
none-kept : (o : Option InHand) → ((i : ℕ) → times_kept o i ≡ 0) → o ≡ None
unfolding times_kept
none-kept None none = refl
none-kept (Some m) none = let one = once-self (token m) in let z = none (token m) in absurd (omega arith)

abbrev at_rest : Paired → Paired
at_rest x = record x { in_work = None; gathered = None; echoing = false }

rests-is : (x : Paired) → ((i : ℕ) → keeps x i ≡ 0) → x.echoing ≡ false → x ≡ at_rest x
rests-is x rests quiet =
    let work = none-kept x.in_work (λ i. let r = rests i in omega arith) in
    let gathers = none-kept x.gathered (λ i. let r = rests i in omega arith) in
    ap (λ o. record x { in_work = o }) work
    ∙ ap (λ o. record x { in_work = None; gathered = o }) gathers
    ∙ ap (λ v. record x { in_work = None; gathered = None; echoing = v }) quiet

-- nothing happens
pub stays : (s : StoreValue) (x : Paired) (sent : List Sent) (f : Fates) → IsHeld s x → sent ≡ [] → Proceeds s s x x 0 [] sent f f (sends [] (ldterm_in s x))
unfolding times_sent
stays s x sent f held none = record {
  state = refl;
  noted = refl;
  parcels = no-parts s sent none;
  told = refl;
  held = held;
  own = record { lists = λ k none. refl; owns_same = λ k. refl };
  chains = none-chains s sent none;
  hands = record { counts = λ i. let e = ap (times_sent i) none in omega arith; others = λ i gone kept some. refl };
  mblks = omega arith;
  dblks = omega arith;
  pool = record { mblks = refl; dblks = refl };
}

-- the message that was taken, beside the others in hand
module _ (s t : StoreValue) (q q' : Queue) (i : ℕ) (is : Dequeued s t q q' i) where
  pub taken-comes : (j : ℕ) → times_in j t.hand ≡ once i j + times_in j s.hand
  unfolding once
  taken-comes j = ap (times_in j) is.hand ∙ sum_by-cons (λ (h : Held). cond {A = ℕ} (eqb h.name j) 1 0) (record { name = i; chain = in_hand t i }) s.hand

  pub taken-stays : (j : ℕ) → 0 < times_in j s.hand → in_hand t j ≡ in_hand s j
  taken-stays j some =
      ap (λ h. chain_in j h) is.hand
      ∙ in_hand-held_other s i j (in_hand t i) (λ e. (let w = ap (λ k. times_in k s.hand) e in let z = is.fresh in absurd (omega arith)))

-- nothing stands there
module _ (s : StoreValue) (x : Paired) (here : Spot) where
  down-none : (stop : Option ℕ) → messages_on s x.write_queue.list ≡ [] → output_of s s here x x stop ≡ nothing_served cells.plain here (ldterm_in s x)
  down-none stop none = ap (λ (ms : List (Message ℕ)). output_serves cells.plain here stop 0 ms (ldterm_in s x)) none

  pub stays-down : (sent : List Sent) → IsHeld s x → messages_on s x.write_queue.list ≡ [] → sent ≡ [] → PassedDown s s here x x sent 0
  stays-down sent held none empty = record {
    passes = λ stop f. subst (λ (v : Serving ℕ (ldterms.Discipline ℕ)). Proceeds s s x x 0 [] sent f f v.acted) (sym (down-none stop none)) (stays s x sent f held empty);
    size = λ stop. sym (ap (λ (v : Serving ℕ (ldterms.Discipline ℕ)). v.bytes) (down-none stop none));
    again = λ stop. ap (λ (v : Serving ℕ (ldterms.Discipline ℕ)). v.again) (down-none stop none);
    whole = λ again. ap (λ (ms : List (Message ℕ)). passes_whole Down again (record (ldterm_in s x) { write_queue = record (ldterm_in s x).write_queue { messages = ms } })) none;
  }

pub stays-up : (s : StoreValue) (here : Spot) (x : Paired) → IsHeld s x → messages_on s x.read_queue.list ≡ [] → BeganWhole s s here x x [] 0
stays-up s here x held none =
    let is = λ (stop : Option ℕ). ap (λ (ms : List (Message ℕ)). input_begins cells.plain here stop 0 ms (ldterm_in s x)) none in
    record {
      passes = λ stop f. subst (λ (v : Serving ℕ (ldterms.Discipline ℕ)). Proceeds s s x x 0 [] [] f f v.acted) (sym (is stop)) (stays s x [] f held refl);
      size = λ stop. sym (ap (λ (v : Serving ℕ (ldterms.Discipline ℕ)). v.bytes) (is stop));
      again = λ stop. ap (λ (v : Serving ℕ (ldterms.Discipline ℕ)). v.again) (is stop);
      whole = ap (λ (ms : List (Message ℕ)). passes_whole Up false (record (ldterm_in s x) { read_queue = record (ldterm_in s x).read_queue { messages = ms } })) none;
    }

-- off the write queue
module _ (s t : StoreValue) (x : Paired) (q' : Queue) (m : InHand) (held : IsHeld s (at_rest x)) (is : Dequeued s t x.write_queue q' (token m)) where
  reads-stay : list_at t x.read_queue.list ≡ list_at s x.read_queue.list
  reads-stay = is.others x.read_queue.list (λ e. let a = held.apart in absurd (omega arith))

  down-plain : ldterm_in t (record (at_rest x) { write_queue = q' })
      ≡ record (ldterm_in s (at_rest x)) { write_queue = left_with (messages_on t q'.list) (ldterm_in s (at_rest x)).write_queue }
  down-plain =
      form-same (record (at_rest x) { write_queue = q' }) _ _ (list_at t q'.list) (list_at t q'.list) None None None None reads-stay refl refl refl
      ∙ ap (λ (q : plain.Queue ℕ). record (ldterm_in s (at_rest x)) { write_queue = q }) is.queue

  down-own : OnlyOwn s t (owns x) (owns (record x { write_queue = q' }))
  down-own = record {
    lists = λ k none. is.others k (λ e. once-apart x.write_queue.list k (omega arith) (sym e));
    owns_same = λ k. ap (λ l. once x.read_queue.list k + once l k) is.list;
  }

  -- and sent on
  down-proceeds : (to : Spot) (here : Spot) (sent : List Sent) (f : Fates) → sent ≡ record { to = to; message = m } ∷ [] → to ≡ toward Down here
      → Proceeds s t (at_rest x) (record (at_rest x) { write_queue = q' }) 0 [] sent f f (passes cells.plain here Down (message_in t (token m)) (messages_on t q'.list) (ldterm_in s (at_rest x))).acted
  unfolding times_kept times_sent
  down-proceeds to here sent f one there = record {
    state = down-plain;
    noted = refl;
    parcels = one-parts t (record { to = to; message = m }) sent one ∙ ap (λ (spot : Spot). record { to = spot; message = message_in t (token m) } ∷ []) there;
    told = refl;
    held = record {
      read = queue-ready s t x.read_queue reads-stay held.read;
      write = is.ready;
      apart = (let a = held.apart in let e = is.list in omega arith);
      work = tt;
      gathers = tt;
      echoes = λ on busy. absurd (false≢true on);
      once_each = held.once_each;
    };
    own = record { lists = down-own.lists; owns_same = down-own.owns_same };
    chains = one-chains t (record { to = to; message = m }) sent one is.chain;
    hands = record {
      counts = λ j. let c = taken-comes s t x.write_queue q' (token m) is j in let e = ap (times_sent j) one in omega arith;
      others = λ j gone kept some. taken-stays s t x.write_queue q' (token m) is j some;
    };
    mblks = (let a = is.frees.mblks in omega arith);
    dblks = (let a = is.frees.dblks in omega arith);
    pool = record { mblks = is.mblks; dblks = is.dblks };
  }

  -- or kept in work
  down-kept : (f : Fates) → IsStore t → (block_at 0 (in_hand t (token m))).kind ≡ kinds.Data
      → Proceeds s t (at_rest x) (record (at_rest x) { write_queue = q'; in_work = Some m }) 0 [] [] f f
      (sends [] (record (ldterm_in s (at_rest x)) { write_queue = left_with (messages_on t q'.list) (ldterm_in s (at_rest x)).write_queue; in_work = Some (message_in t (token m)) }))
  unfolding times_kept times_sent parcels_in AreChains
  down-kept f st kind = record {
    state = ap (λ (p : ldterms.Discipline ℕ). record p { in_work = Some (message_in t (token m)) }) down-plain;
    noted = refl;
    parcels = refl;
    told = refl;
    held = record {
      read = queue-ready s t x.read_queue reads-stay held.read;
      write = is.ready;
      apart = (let a = held.apart in let e = is.list in omega arith);
      work = record { chain = is.chain; kind = kind };
      gathers = tt;
      echoes = λ on busy. absurd (false≢true on);
      once_each = λ j. let c = taken-comes s t x.write_queue q' (token m) is j in let few = st.apart j in omega arith;
    };
    own = record { lists = down-own.lists; owns_same = down-own.owns_same };
    chains = tt;
    hands = record {
      counts = λ j. let c = taken-comes s t x.write_queue q' (token m) is j in omega arith;
      others = λ j gone kept some. taken-stays s t x.write_queue q' (token m) is j some;
    };
    mblks = (let a = is.frees.mblks in omega arith);
    dblks = (let a = is.frees.dblks in omega arith);
    pool = record { mblks = is.mblks; dblks = is.dblks };
  }

  down-is : (here : Spot) (stop : Option ℕ) → goes_out x.termios (message_in t (token m)) ≡ false → let p = ldterm_in s (at_rest x) in
      output_serves cells.plain here stop 0 p.write_queue.messages p ≡ passes cells.plain here Down (message_in t (token m)) (messages_on t q'.list) p
  down-is here stop whole =
      let p = ldterm_in s (at_rest x) in
      ap (λ (ms : List (Message ℕ)). output_serves cells.plain here stop 0 ms p) is.first ∙ goes-whole here stop (message_in t (token m)) (messages_on t q'.list) p whole

  down-whole : (to : Spot) (here : Spot) (sent : List Sent) (bytes : ℕ) → sent ≡ record { to = to; message = m } ∷ [] → to ≡ toward Down here → goes_out x.termios (message_in t (token m)) ≡ false
      → bytes ≡ size_of (message_in t (token m)) → PassedDown s t here (at_rest x) (record (at_rest x) { write_queue = q' }) sent bytes
  down-whole to here sent bytes one there whole size = record {
    passes = λ stop f.
        subst (λ (v : Serving ℕ (ldterms.Discipline ℕ)). Proceeds s t (at_rest x) (record (at_rest x) { write_queue = q' }) 0 [] sent f f v.acted) (sym (down-is here stop whole))
        (down-proceeds to here sent f one there);
    size = λ stop. size ∙ sym (ap (λ (v : Serving ℕ (ldterms.Discipline ℕ)). v.bytes) (down-is here stop whole));
    again = λ stop. ap (λ (v : Serving ℕ (ldterms.Discipline ℕ)). v.again) (down-is here stop whole);
    whole = λ again.
        let p = ldterm_in s (at_rest x) in
        ap (λ (ms : List (Message ℕ)). passes_whole Down again (record p { write_queue = record p.write_queue { messages = ms } })) is.first ∙ ap not whole;
  }

  down-work : (here : Spot) (bytes band : ℕ) → IsStore t → (block_at 0 (in_hand t (token m))).kind ≡ kinds.Data → opost x.termios ≡ true → 0 < bytes → bytes ≡ length (cells_of (message_in t (token m)))
      → band ≡ (block_at 0 (in_hand t (token m))).band → BeganOutput s t here (at_rest x) (record (at_rest x) { write_queue = q'; in_work = Some m }) bytes band
  down-work here bytes band st kind output some size banded = record {
    message = message_in t (token m);
    rest = messages_on t q'.list;
    first = is.first;
    is =
        let chain = in_hand t (token m) in
        let shown = data-shown chain is.chain.some kind ∙ ap (λ b. data_in b (data_bytes chain)) (sym banded) in
        shown ∙ ap (data_in band) (sym (ap cells_of shown ∙ data_in-cells band (data_bytes chain)));
    output = output;
    some = some;
    size = size;
    idle = refl;
    none = refl;
    quiet = refl;
    works = λ f. down-kept f st kind;
  }

-- off the read queue
module _ (s t : StoreValue) (x : Paired) (q' : Queue) (m : InHand) (held : IsHeld s (at_rest x)) (is : Dequeued s t x.read_queue q' (token m)) where
  writes-stay : list_at t x.write_queue.list ≡ list_at s x.write_queue.list
  writes-stay = is.others x.write_queue.list (λ e. let a = held.apart in absurd (omega arith))

  up-plain : ldterm_in t (record (at_rest x) { read_queue = q' })
      ≡ record (ldterm_in s (at_rest x)) { read_queue = left_with (messages_on t q'.list) (ldterm_in s (at_rest x)).read_queue }
  up-plain =
      form-same (record (at_rest x) { read_queue = q' }) (list_at t q'.list) (list_at t q'.list) _ _ None None None None refl writes-stay refl refl
      ∙ ap (λ (q : plain.Queue ℕ). record (ldterm_in s (at_rest x)) { read_queue = q }) is.queue

  up-own : OnlyOwn s t (owns x) (owns (record x { read_queue = q' }))
  up-own = record {
    lists = λ k none. is.others k (λ e. once-apart x.read_queue.list k (omega arith) (sym e));
    owns_same = λ k. ap (λ l. once l k + once x.write_queue.list k) is.list;
  }

  -- and sent on
  up-proceeds : (to : Spot) (here : Spot) (sent : List Sent) (f : Fates) → sent ≡ record { to = to; message = m } ∷ [] → to ≡ toward Up here
      → Proceeds s t (at_rest x) (record (at_rest x) { read_queue = q' }) 0 [] sent f f (passes cells.plain here Up (message_in t (token m)) (messages_on t q'.list) (ldterm_in s (at_rest x))).acted
  unfolding times_kept times_sent
  up-proceeds to here sent f one there = record {
    state = up-plain;
    noted = refl;
    parcels = one-parts t (record { to = to; message = m }) sent one ∙ ap (λ (spot : Spot). record { to = spot; message = message_in t (token m) } ∷ []) there;
    told = refl;
    held = record {
      read = is.ready;
      write = queue-ready s t x.write_queue writes-stay held.write;
      apart = (let a = held.apart in let e = is.list in omega arith);
      work = tt;
      gathers = tt;
      echoes = λ on busy. absurd (false≢true on);
      once_each = held.once_each;
    };
    own = record { lists = up-own.lists; owns_same = up-own.owns_same };
    chains = one-chains t (record { to = to; message = m }) sent one is.chain;
    hands = record {
      counts = λ j. let c = taken-comes s t x.read_queue q' (token m) is j in let e = ap (times_sent j) one in omega arith;
      others = λ j gone kept some. taken-stays s t x.read_queue q' (token m) is j some;
    };
    mblks = (let a = is.frees.mblks in omega arith);
    dblks = (let a = is.frees.dblks in omega arith);
    pool = record { mblks = is.mblks; dblks = is.dblks };
  }

  -- or kept in work
  work-plain : ldterm_in t (record (at_rest x) { read_queue = q'; in_work = Some m })
      ≡ record (ldterm_in s (at_rest x)) { read_queue = left_with (messages_on t q'.list) (ldterm_in s (at_rest x)).read_queue; in_work = Some (message_in t (token m)) }
  work-plain = ap (λ (p : ldterms.Discipline ℕ). record p { in_work = Some (message_in t (token m)) }) up-plain

  work-proceeds : (f : Fates) → IsStore t → (block_at 0 (in_hand t (token m))).kind ≡ kinds.Data
      → Proceeds s t (at_rest x) (record (at_rest x) { read_queue = q'; in_work = Some m }) 0 [] [] f f
      (sends [] (record (ldterm_in s (at_rest x)) { read_queue = left_with (messages_on t q'.list) (ldterm_in s (at_rest x)).read_queue; in_work = Some (message_in t (token m)) }))
  unfolding times_kept times_sent parcels_in AreChains
  work-proceeds f st kind = record {
    state = work-plain;
    noted = refl;
    parcels = refl;
    told = refl;
    held = record {
      read = is.ready;
      write = queue-ready s t x.write_queue writes-stay held.write;
      apart = (let a = held.apart in let e = is.list in omega arith);
      work = record { chain = is.chain; kind = kind };
      gathers = tt;
      echoes = λ on busy. absurd (false≢true on);
      once_each = λ j. let c = taken-comes s t x.read_queue q' (token m) is j in let few = st.apart j in omega arith;
    };
    own = record { lists = up-own.lists; owns_same = up-own.owns_same };
    chains = tt;
    hands = record {
      counts = λ j. let c = taken-comes s t x.read_queue q' (token m) is j in omega arith;
      others = λ j gone kept some. taken-stays s t x.read_queue q' (token m) is j some;
    };
    mblks = (let a = is.frees.mblks in omega arith);
    dblks = (let a = is.frees.dblks in omega arith);
    pool = record { mblks = is.mblks; dblks = is.dblks };
  }

  -- what the definition says of it
  up-is : (here : Spot) (stop : Option ℕ) (v : Bool) → is_data (message_in t (token m)).kind ≡ v
      → let p = ldterm_in s (at_rest x) in let i = message_in t (token m) in let rest = messages_on t q'.list in
      input_begins cells.plain here stop 0 p.read_queue.messages p
      ≡ cond {A = Serving ℕ (ldterms.Discipline ℕ)} v (treats cells.plain here (unwrap_or stop (length (cells_of i))) 0 (record p { read_queue = left_with rest p.read_queue; in_work = Some i })) (passes cells.plain here Up i rest p)
  up-is here stop v kind =
      let p = ldterm_in s (at_rest x) in
      let i = message_in t (token m) in
      let rest = messages_on t q'.list in
      ap (λ (ms : List (Message ℕ)). input_begins cells.plain here stop 0 ms p) is.first
      ∙ ap (λ (w : Bool). cond {A = Serving ℕ (ldterms.Discipline ℕ)} w (treats cells.plain here (unwrap_or stop (length (cells_of i))) 0 (record p { read_queue = left_with rest p.read_queue; in_work = Some i })) (passes cells.plain here Up i rest p)) kind

  whole-rest : (to : Spot) (here : Spot) (sent : List Sent) (bytes : ℕ) → sent ≡ record { to = to; message = m } ∷ [] → to ≡ toward Up here → is_data (message_in t (token m)).kind ≡ false
      → bytes ≡ size_of (message_in t (token m)) → BeganWhole s t here (at_rest x) (record (at_rest x) { read_queue = q' }) sent bytes
  whole-rest to here sent bytes one there kind size = record {
    passes = λ stop f.
        subst (λ (v : Serving ℕ (ldterms.Discipline ℕ)). Proceeds s t (at_rest x) (record (at_rest x) { read_queue = q' }) 0 [] sent f f v.acted) (sym (up-is here stop false kind))
        (up-proceeds to here sent f one there);
    size = λ stop. size ∙ sym (ap (λ (v : Serving ℕ (ldterms.Discipline ℕ)). v.bytes) (up-is here stop false kind));
    again = λ stop. ap (λ (v : Serving ℕ (ldterms.Discipline ℕ)). v.again) (up-is here stop false kind);
    whole = (let p = ldterm_in s (at_rest x) in ap (λ (ms : List (Message ℕ)). passes_whole Up false (record p { read_queue = record p.read_queue { messages = ms } })) is.first ∙ ap not kind);
  }

  work-rest : (here : Spot) (bytes : ℕ) → IsStore t → (block_at 0 (in_hand t (token m))).kind ≡ kinds.Data → is_data (message_in t (token m)).kind ≡ true → bytes ≡ length (cells_of (message_in t (token m)))
      → BeganWork s t here (at_rest x) (record (at_rest x) { read_queue = q'; in_work = Some m }) bytes
  work-rest here bytes st kind treated size = record {
    message = message_in t (token m);
    rest = messages_on t q'.list;
    first = is.first;
    kind = kind-is (in_hand t (token m)) ∙ kind;
    size = size;
    works = λ f. work-proceeds f st kind;
    treated = λ stop.
        up-is here stop true treated
        ∙ ap (λ n. treats cells.plain here (unwrap_or stop n) 0 (record (ldterm_in s (at_rest x)) { read_queue = left_with (messages_on t q'.list) (ldterm_in s (at_rest x)).read_queue; in_work = Some (message_in t (token m)) })) (sym size)
        ∙ ap (λ (p : ldterms.Discipline ℕ). treats cells.plain here (unwrap_or stop bytes) 0 p) (sym work-plain);
    stage = refl;
  }

-- M_DATA alone is treated byte by byte
data-only : (k : MsgKind) → is_data k ≡ true → k ≡ kinds.Data
data-only kinds.Data is = refl
data-only _ is = absurd (cc)

module _ (s t : StoreValue) (x : Paired) (q' : Queue) (m : InHand) (here : Spot) (held : IsHeld s x) (rests : (i : ℕ) → keeps x i ≡ 0) (still : x.echoing ≡ false) (is : Dequeued s t x.read_queue q' (token m)) (bytes : ℕ)
    (size : bytes ≡ size_of (message_in t (token m))) where
  kind-same : is_data (message_in t (token m)).kind ≡ is_data (block_at 0 (in_hand t (token m))).kind
  kind-same = ap is_data (kind-is (in_hand t (token m)))

  pub began-whole : (to : Spot) (sent : List Sent) → sent ≡ record { to = to; message = m } ∷ [] → to ≡ toward Up here → is_data (block_at 0 (in_hand t (token m))).kind ≡ false
      → BeganWhole s t here x (record x { read_queue = q' }) sent bytes
  began-whole to sent one there kind =
      let quiet = rests-is x rests still in
      subst (λ (y : Paired). BeganWhole s t here y (record y { read_queue = q' }) sent bytes) (sym quiet)
      (whole-rest s t x q' m (subst (IsHeld s) quiet held) is to here sent bytes one there (kind-same ∙ kind) size)

  pub began-work : IsStore t → is_data (block_at 0 (in_hand t (token m))).kind ≡ true → BeganWork s t here x (record x { read_queue = q'; in_work = Some m }) bytes
  began-work st kind =
      let quiet = rests-is x rests still in
      let of_data = data-only (block_at 0 (in_hand t (token m))).kind kind in
      subst (λ (y : Paired). BeganWork s t here y (record y { read_queue = q'; in_work = Some m }) bytes) (sym quiet)
      (work-rest s t x q' m (subst (IsHeld s) quiet held) is here bytes st of_data (kind-same ∙ kind) (size ∙ data-size (in_hand t (token m)) is.chain of_data))

-- whether a message goes out
out-test : (treated output : Bool) (xs : List ℕ) (n : ℕ) → (treated ≡ true → n ≡ length xs) → (treated && (output && nat_lt 0 n)) ≡ (treated && (output && not (is_none_left xs)))
out-test false output xs n is = refl
out-test true false xs n is = refl
out-test true true [] n is = ap (nat_lt 0) (is refl)
out-test true true (x ∷ xs) n is = let size = is refl in grind (arith, nat_tests)

both-true : (a b c : Bool) → (a && (b && c)) ≡ true → (a ≡ true) × (b ≡ true) × (c ≡ true)
both-true true true true is = (refl, refl, refl)
both-true true true false is = absurd (false≢true is)
both-true true false c is = absurd (false≢true is)
both-true false b c is = absurd (false≢true is)

module _ (s t : StoreValue) (x : Paired) (q' : Queue) (m : InHand) (here : Spot) (held : IsHeld s x) (rests : (i : ℕ) → keeps x i ≡ 0) (still : x.echoing ≡ false) (is : Dequeued s t x.write_queue q' (token m)) (bytes : ℕ)
    (size : bytes ≡ size_of (message_in t (token m))) where
  abbrev kind : MsgKind
  kind = (block_at 0 (in_hand t (token m))).kind

  tested : (is_data kind && (opost x.termios && nat_lt 0 bytes)) ≡ goes_out x.termios (message_in t (token m))
  tested =
      out-test (is_data kind) (opost x.termios) (cells_of (message_in t (token m))) bytes (λ treated. size ∙ data-size (in_hand t (token m)) is.chain (data-only kind treated))
      ∙ ap (λ k. is_data k && (opost x.termios && not (is_none_left (cells_of (message_in t (token m)))))) (sym (kind-is (in_hand t (token m))))

  pub passed-down : (to : Spot) (sent : List Sent) → sent ≡ record { to = to; message = m } ∷ [] → to ≡ toward Down here → (is_data kind && (opost x.termios && nat_lt 0 bytes)) ≡ false
      → PassedDown s t here x (record x { write_queue = q' }) sent bytes
  passed-down to sent one there whole =
      let quiet = rests-is x rests still in
      subst (λ (y : Paired). PassedDown s t here y (record y { write_queue = q' }) sent bytes) (sym quiet)
      (down-whole s t x q' m (subst (IsHeld s) quiet held) is to here sent bytes one there (sym tested ∙ whole) size)

  pub began-output : (band : ℕ) → IsStore t → band ≡ (block_at 0 (in_hand t (token m))).band → (is_data kind && (opost x.termios && nat_lt 0 bytes)) ≡ true
      → BeganOutput s t here x (record x { write_queue = q'; in_work = Some m }) bytes band
  began-output band st banded out =
      let quiet = rests-is x rests still in
      let all = both-true (is_data kind) (opost x.termios) (nat_lt 0 bytes) out in
      let of_data = data-only kind all.0 in
      let some : 0 < bytes = (let z = all.2 in grind (arith, nat_tests)) in
      subst (λ (y : Paired). BeganOutput s t here y (record y { write_queue = q'; in_work = Some m }) bytes band) (sym quiet)
      (down-work s t x q' m (subst (IsHeld s) quiet held) is here bytes band st of_data all.1 some (size ∙ data-size (in_hand t (token m)) is.chain of_data) banded)
