-- The walk of a flush along a list: what it has taken, and what it leaves.
use Rattle.std.proofs.Common.{ℕ, ◌≡◌, ◌≢◌, ◌≤◌, ◌<◌, ◌+◌, ◌-◌, Bool, true, false, cond, eqb, List, [], ◌∷◌, ◌++◌, length, map, refl, sym, ap, ◌∙◌, subst, arith, inl, inr}
use Rattle.std.specs.Prelude.{◌⊎◌, Option, None, Some, option_map, not, MatchOption}
use Rattle.std.proofs.lemmas.Bool.Decides.{nat_tests}
use Rattle.std.proofs.lemmas.List.{append-nil, append_assoc, length-append, map-append, set-set, set-get_or}
use Rattle.std.proofs.lemmas.List.Sums.{sum_by-cons}
use Rattle.strm_types.specs.declared.limits.TheConstants.{LISTS}
use denote.RawPtr.{Ptr}
use Rattle.strm_types.specs.Flush.{is_flushed}
use Rattle.strm_blocks.specs.declared.asked.FlushWhat.{FlushWhat}
use Rattle.strm_blocks.specs.declared.in_hand.InHand.{InHand}
use Rattle.strm_blocks.specs.Blocks.{Block, Held, StoreValue, IsInHand, IsFreshName, times_in, in_hand, list_at, placed, held, dropped, changed, token}
use Rattle.strm_blocks.specs.Outcomes.{flushes, flushed}
use Rattle.strm_raw.specs.Numbered.{Nodes, Row, row_at, msg_number, IsMsgOrNone}
use Rattle.strm_raw.specs.Roster.{Msg, Roster}
use Rattle.strm_raw.specs.Raw.{chain_of, value_of, IsRaw}
use Rattle.strm_raw.specs.Lists.{AreListed, IsList, Unseats, begin_of, ends_at, queue_at}
use Rattle.strm_raw.specs.Wiped.{AreWiped}
use Rattle.strm_raw.specs.Flushing.{Gathers}
use Rattle.strm_raw.specs.Tails.{Hangs}
use Rattle.strm_raw.specs.declared.neighbours.Ends.{Ends}
use Rattle.strm_raw.specs.declared.neighbours.KeptEnds.{KeptEnds}
use Rattle.strm_raw.specs.declared.msg_nodes.MsgLink.{MsgLink}
use Rattle.strm_raw.specs.declared.data_nodes.DataLink.{DataLink}
use Rattle.strm_raw.proofs.Standing.{empty}
use Rattle.strm_raw.proofs.Hanging.{hung}
use Rattle.strm_raw.proofs.Moved.{queue-value}
use Rattle.strm_raw.proofs.Placing.{queue-few}
use Rattle.strm_raw.proofs.Seating.{taken-off}
use Rattle.strm_raw.proofs.Tied.{a-first, no-first, list-begin, list-ahead}

-- what has been taken, if anything, is a message in hand beside what is left
abbrev pub Taken : Option InHand → StoreValue → StoreValue → StoreValue → Type 0
Taken taken old left new = MatchOption taken (new ≡ left) (λ m. Gathers old left new (token m))

-- whether a flush takes the message that begins with a block
abbrev pub takes_row : FlushWhat → Row → Bool
takes_row what r = is_flushed what.all (option_map (λ b. b.0) what.band) r.kind r.band

module _ (s0 : StoreValue) (k : ℕ) (what : FlushWhat) where
  -- the walk stands before the rear of a list
  pub record Walk (v : Nodes) (ends : List KeptEnds) (b : Roster) (first_m : Option MsgLink) (first_d : Option DataLink) (spare_m spare_d : ℕ) (at : Option MsgLink) (left : ℕ) : Type 0 where
    pub raw : IsRaw v first_m first_d spare_m spare_d b
    pub wiped : AreWiped v.datas
    pub listed : AreListed v ends b
    pub there : IsMsgOrNone v.mat (length v.rows) at
    pub front : List Msg
    pub rear : List Msg
    pub joined : queue_at k b.lists ≡ front ++ rear
    pub place : option_map (msg_number v.mat) at ≡ begin_of rear
    pub short : length rear ≤ left
    pub sifted : map (chain_of v) front ++ flushed what (map (chain_of v) rear) ≡ flushed what (list_at s0 k)

  pub record Sifting (v : Nodes) (ends : List KeptEnds) (b : Roster) (first_m : Option MsgLink) (first_d : Option DataLink) (spare_m spare_d : ℕ) (at : Option MsgLink) (left : ℕ) (taken : Option InHand) : Type 0 where
    pub walk : Walk v ends b first_m first_d spare_m spare_d at left
    pub gathered : Taken taken s0 (placed s0 k []) (placed (value_of v b) k [])

  -- one message is in hand beside what was taken before
  pub record Loose (v : Nodes) (ends : List KeptEnds) (b : Roster) (first_m : Option MsgLink) (first_d : Option DataLink) (spare_m spare_d : ℕ) (at : Option MsgLink) (left : ℕ) (taken : Option InHand) (i : ℕ) : Type 0 where
    pub walk : Walk v ends b first_m first_d spare_m spare_d at left
    pub rest : StoreValue
    pub chain : List Block
    pub fresh : IsFreshName rest i
    pub value : placed (value_of v b) k [] ≡ held rest i chain
    pub gathered : Taken taken s0 (placed s0 k []) rest

  -- the same, once the list is what is left of it
  all-taken : (s : StoreValue) (taken : Option InHand) (q : List (List Block)) → s ≡ placed (placed s k []) k q → placed (placed s0 k []) k q ≡ placed s0 k q
      → Taken taken s0 (placed s0 k []) (placed s k []) → Taken taken s0 (placed s0 k q) s
  all-taken s None q whole again t = whole ∙ ap (λ (s : StoreValue). placed s k q) t ∙ again
  all-taken s (Some m) q whole again t = record {
    fresh_name = t.fresh_name;
    chain = t.chain;
    after = whole ∙ ap (λ (s : StoreValue). placed s k q) t.after ∙ ap (λ (s : StoreValue). held s (token m) t.chain) again;
  }

  pub sift-begins : {v : Nodes} {ends : List KeptEnds} {b : Roster} {first_m : Option MsgLink} {first_d : Option DataLink} {spare_m spare_d : ℕ} → IsRaw v first_m first_d spare_m spare_d b → AreWiped v.datas → AreListed v ends b → value_of v b ≡ s0
      → (e : Ends) → e ≡ ends_at k ends → (n : ℕ) → n ≡ length v.rows → Sifting v ends b first_m first_d spare_m spare_d e.first n None
  sift-begins {v = v} {ends = ends} {b = b} is wiped listed view e e_is n all = record {
    walk = record {
      raw = is;
      wiped = wiped;
      listed = listed;
      there = subst (λ (e : Ends). IsMsgOrNone v.mat (length v.rows) e.first) (sym e_is) (listed.first k);
      front = [];
      rear = queue_at k b.lists;
      joined = refl;
      place = ap (λ (e : Ends). option_map (msg_number v.mat) e.first) e_is ∙ list-begin v (ends_at k ends) (queue_at k b.lists) (listed.tied k);
      short = let f = queue-few is k in omega arith;
      sifted = ap (λ q. flushed what q) (sym (queue-value v b.lists k) ∙ ap (λ (s : StoreValue). list_at s k) view);
    };
    gathered = ap (λ (s : StoreValue). placed s k []) view;
  }

  module _ {v : Nodes} {ends : List KeptEnds} {b : Roster} {first_m : Option MsgLink} {first_d : Option DataLink} {spare_m spare_d : ℕ} {at : Option MsgLink} {left : ℕ} where
    -- a step past a message
    module _ (w : Walk v ends b first_m first_d spare_m spare_d at left) (more : 0 < left) (l : MsgLink) (eq : at ≡ Some l)
        (next : Option MsgLink) (step : option_map (msg_number v.mat) next ≡ (row_at (msg_number v.mat l) v.rows).ahead) (next_there : IsMsgOrNone v.mat (length v.rows) next) where
      first : (m : Msg) × ((ys : List Msg) × ((w.rear ≡ m ∷ ys) × (m.head ≡ msg_number v.mat l)))
      first = a-first w.rear (msg_number v.mat l) (sym w.place ∙ ap (λ o. option_map (msg_number v.mat) o) eq)

      abbrev m : Msg
      m = first.0

      abbrev ys : List Msg
      ys = first.1.0

      shape : queue_at k b.lists ≡ w.front ++ m ∷ ys
      shape = w.joined ∙ ap (λ q. w.front ++ q) first.1.1.0

      -- the list counts it
      pub some-left : 0 < (ends_at k ends).count
      some-left = omega (arith, w.listed.counted k, ap length shape, length-append w.front (m ∷ ys))

      behind : option_map (msg_number v.mat) next ≡ begin_of ys
      behind = step ∙ ap (λ i. (row_at i v.rows).ahead) (sym first.1.1.1) ∙ list-ahead v (ends_at k ends) w.front m ys (subst (λ (q : List Msg). IsList v (ends_at k ends) q) shape (w.listed.tied k))

      fewer : length ys ≤ left - 1
      fewer = let s = w.short in let e = ap length first.1.1.0 in omega arith

      test-is : {t : Bool} → takes_row what (row_at (msg_number v.mat l) v.rows) ≡ t → flushes what (chain_of v m) ≡ t
      test-is test = ap (λ i. takes_row what (row_at i v.rows)) first.1.1.1 ∙ test

      -- one that stays
      pub walk-passes : takes_row what (row_at (msg_number v.mat l) v.rows) ≡ false → Walk v ends b first_m first_d spare_m spare_d next (left - 1)
      walk-passes stays = record {
        raw = w.raw;
        wiped = w.wiped;
        listed = w.listed;
        there = next_there;
        front = w.front ++ m ∷ [];
        rear = ys;
        joined = shape ∙ sym (append_assoc w.front (m ∷ []) ys);
        place = behind;
        short = fewer;
        sifted =
            (λ j. map-append (chain_of v) w.front (m ∷ []) j ++ flushed what (map (chain_of v) ys))
            ∙ append_assoc (map (chain_of v) w.front) (chain_of v m ∷ []) (flushed what (map (chain_of v) ys))
            ∙ ap (λ t. map (chain_of v) w.front ++ cond (not t) (chain_of v m ∷ flushed what (map (chain_of v) ys)) (flushed what (map (chain_of v) ys))) (sym (test-is stays))
            ∙ ap (λ q. map (chain_of v) w.front ++ flushed what (map (chain_of v) q)) (sym first.1.1.0)
            ∙ w.sifted;
      }

      -- one that a flush takes
      pub walk-takes : {v' : Nodes} {ends' : List KeptEnds} {b' : Roster} → k < LISTS → takes_row what (row_at (msg_number v.mat l) v.rows) ≡ true → Unseats v v' ends ends' b b' k l
          → (taken : Option InHand) → Taken taken s0 (placed s0 k []) (placed (value_of v b) k []) → Loose v' ends' b' first_m first_d spare_m spare_d next (left - 1) taken (msg_number v.mat l)
      walk-takes {v' = v'} {ends' = ends'} {b' = b'} within goes u taken t =
          let done = taken-off w.raw w.listed k within l w.front m ys shape first.1.1.1 u in
          let mat = ap (λ (w : Nodes). w.mat) u.nodes in
          record {
            walk = record {
              raw = done.becomes.raw;
              wiped = subst AreWiped (sym (ap (λ (w : Nodes). w.datas) u.nodes)) w.wiped;
              listed = done.becomes.listed;
              there = subst (λ (x : Ptr × ℕ). IsMsgOrNone x.0 x.1 next) (λ q. (sym mat q, sym u.tied.len q)) next_there;
              front = w.front;
              rear = ys;
              joined = done.queue;
              place = ap (λ mat. option_map (msg_number mat) next) mat ∙ behind;
              short = fewer;
              sifted =
                  (λ j. map (done.chains j) w.front ++ flushed what (map (done.chains j) ys))
                  ∙ ap (λ t. map (chain_of v) w.front ++ cond (not t) (chain_of v m ∷ flushed what (map (chain_of v) ys)) (flushed what (map (chain_of v) ys))) (sym (test-is goes))
                  ∙ ap (λ q. map (chain_of v) w.front ++ flushed what (map (chain_of v) q)) (sym first.1.1.0)
                  ∙ w.sifted;
            };
            rest = placed (value_of v b) k [];
            chain = chain_of v m;
            fresh = done.fresh;
            value = ap (λ (s : StoreValue). placed s k []) done.becomes.value ∙ (λ j. held (record (value_of v b) { lists = set-set (value_of v b).lists k (map (chain_of v) w.front ++ map (chain_of v) ys) [] j }) (msg_number v.mat l) (chain_of v m));
            gathered = t;
          }

    -- the message that was taken first, and one that was taken behind others
    pub loose-first : {i : ℕ} → Loose v ends b first_m first_d spare_m spare_d at left None i → (m : InHand) → token m ≡ i → Sifting v ends b first_m first_d spare_m spare_d at left (Some m)
    loose-first lo m name = record {
      walk = lo.walk;
      gathered = record {
        fresh_name = subst (λ (x : StoreValue × ℕ). IsFreshName x.0 x.1) (λ j. (lo.gathered j, sym name j)) lo.fresh;
        chain = lo.chain;
        after = lo.value ∙ (λ j. held (lo.gathered j) (sym name j) lo.chain);
      };
    }

    module _ {i : ℕ} (others : InHand) (lo : Loose v ends b first_m first_d spare_m spare_d at left (Some others) i) where
      abbrev j : ℕ
      j = token others

      abbrev old : Held
      old = record { name = j; chain = lo.gathered.chain }

      counted : (n : ℕ) → times_in n lo.rest.hand ≡ cond (eqb j n) 1 0 + times_in n s0.hand
      counted n = ap (λ (s : StoreValue). times_in n s.hand) lo.gathered.after ∙ sum_by-cons (λ (h : Held). cond (eqb h.name n) 1 0) old s0.hand

      counted-all : (n : ℕ) → times_in n (value_of v b).hand ≡ cond (eqb i n) 1 0 + times_in n lo.rest.hand
      counted-all n = ap (λ (s : StoreValue). times_in n s.hand) lo.value ∙ sum_by-cons (λ (h : Held). cond (eqb h.name n) 1 0) (record { name = i; chain = lo.chain }) lo.rest.hand

      pub loose-apart : i ≢ j
      loose-apart e = let c = counted i in let f = lo.fresh in grind (arith, nat_tests)

      loose-fresh : IsFreshName s0 i
      loose-fresh = let c = counted i in let f = lo.fresh in omega arith

      pub loose-here : IsInHand (value_of v b) i
      loose-here = let c = counted-all i in let f = lo.fresh in grind (arith, nat_tests)

      pub loose-others : IsInHand (value_of v b) j
      loose-others = let c = counted-all j in let d = counted j in let f = lo.gathered.fresh_name in let a = loose-apart in grind (arith, nat_tests)

      all-is : placed (value_of v b) k [] ≡ held (held (placed s0 k []) j lo.gathered.chain) i lo.chain
      all-is = lo.value ∙ ap (λ (s : StoreValue). held s i lo.chain) lo.gathered.after

      -- the two as one
      joined-is : (X : List Block) → changed (dropped (held (held (placed s0 k []) j lo.gathered.chain) i lo.chain) j) i X ≡ held (placed s0 k []) i X
      joined-is X =
          let no : eqb i j ≡ false = (let a = loose-apart in grind (arith, nat_tests)) in
          let yes : eqb j j ≡ true = grind (arith, nat_tests) in
          let same : eqb i i ≡ true = grind (arith, nat_tests) in
          rw (no, yes) (rw same refl)

      pub loose-joins : {v' : Nodes} {b' : Roster} → Hangs v v' b b' i j → (m : InHand) → token m ≡ i → Sifting v' ends b' first_m first_d spare_m spare_d at left (Some m)
      loose-joins {v' = v'} {b' = b'} h m name =
          let w = lo.walk in
          let done = hung w.raw w.listed refl i j loose-here loose-others loose-apart h in
          record {
            walk = record {
              raw = done.becomes.raw;
              wiped = subst AreWiped (sym done.datas) w.wiped;
              listed = done.becomes.listed;
              there = subst (λ (x : Ptr × ℕ). IsMsgOrNone x.0 x.1 at) (λ q. (sym done.mat q, sym done.len q)) w.there;
              front = w.front;
              rear = w.rear;
              joined = ap (λ lists. queue_at k lists) done.lists ∙ w.joined;
              place = ap (λ mat. option_map (msg_number mat) at) done.mat ∙ w.place;
              short = w.short;
              sifted = (λ j. map (done.chains j) w.front ++ flushed what (map (done.chains j) w.rear)) ∙ w.sifted;
            };
            gathered = record {
              fresh_name = subst (λ n. IsFreshName s0 n) (sym name) loose-fresh;
              chain = in_hand (value_of v b) i ++ in_hand (value_of v b) j;
              after =
                  ap (λ (s : StoreValue). placed s k []) done.becomes.value
                  ∙ ap (λ (s : StoreValue). changed (dropped s j) i (in_hand (value_of v b) i ++ in_hand (value_of v b) j)) all-is
                  ∙ joined-is (in_hand (value_of v b) i ++ in_hand (value_of v b) j)
                  ∙ ap (λ n. held (placed s0 k []) n (in_hand (value_of v b) i ++ in_hand (value_of v b) j)) (sym name);
            };
          }

    -- where the walk has come to the end
    pub sift-ends : (taken : Option InHand) → Sifting v ends b first_m first_d spare_m spare_d at left taken → (at ≡ None) ⊎ (left ≤ 0) → Taken taken s0 (placed s0 k (flushed what (list_at s0 k))) (value_of v b)
    sift-ends taken s end =
        let w = s.walk in
        let rear : w.rear ≡ [] = elim end [
          | inl none ↦ no-first w.rear (sym w.place ∙ ap (λ o. option_map (msg_number v.mat) o) none)
          | inr zero ↦ empty w.rear (let f = w.short in omega arith)
        ] in
        let list : list_at (value_of v b) k ≡ flushed what (list_at s0 k) =
        queue-value v b.lists k ∙ ap (λ q. map (chain_of v) q) (w.joined ∙ ap (λ q. w.front ++ q) rear ∙ append-nil w.front)
        ∙ sym (append-nil (map (chain_of v) w.front)) ∙ ap (λ q. map (chain_of v) w.front ++ flushed what (map (chain_of v) q)) (sym rear) ∙ w.sifted in
        let whole : value_of v b ≡ placed (placed (value_of v b) k []) k (flushed what (list_at s0 k)) =
        (λ j. record (value_of v b) { lists = sym (set-get_or (value_of v b).lists k []) j })
        ∙ (λ j. record (value_of v b) { lists = sym (set-set (value_of v b).lists k [] (list_at (value_of v b) k)) j })
        ∙ ap (λ q. placed (placed (value_of v b) k []) k q) list in
        let again : placed (placed s0 k []) k (flushed what (list_at s0 k)) ≡ placed s0 k (flushed what (list_at s0 k)) =
        (λ j. record s0 { lists = set-set s0.lists k [] (flushed what (list_at s0 k)) j }) in
        all-taken (value_of v b) taken (flushed what (list_at s0 k)) whole again s.gathered
