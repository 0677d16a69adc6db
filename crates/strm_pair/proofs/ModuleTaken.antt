-- The module on top of a stack, taken off it.
use Rattle.strm_pair.proofs.Prelude.{ℕ, zero, suc, ◌≡◌, ◌<◌, ◌+◌, Bool, true, false, cond, List, [], ◌∷◌, map, refl, sym, ap, subst, ◌∙◌, arith}
use Rattle.strm_pair.proofs.Prelude.{sum_by, sum_by-cons, Option, None, Some, all-gone}
use Rattle.strm_pair.specs.Prelude.{ModuleName, Side, Up, Down, Fates, Rule, tallied, of_all, emptied, none_goes, queue_behind, act_among, top_name}
use Rattle.strm_pair.specs.Prelude.{Message, Standing, module_name, Block, StoreValue, list_at, message_of, FreesBlocks, queue_in, once, OnlyOwn}
use Rattle.strm_pair.specs.Prelude.{SameHand, all_of, AreHeld, Stack, QueuePair, owns, queues_in, queues_own}
use Rattle.strm_types.specs.declared.names.ModuleName.TheVariants as names
use Rattle.strm_types.specs.Queue as queue
use Rattle.strm_types.specs.Service.{queues_cleared}
use Rattle.strm_types.specs.Standings as plain
use Rattle.strm_types.specs.Standings.{messages_on}
use Rattle.strm_pair.specs.declared.modules.AnyModule.{AnyModule}
use Rattle.strm_pair.specs.AnyModules.{AnyStanding, IsHeld, keeps, module_in}
use Rattle.strm_pair.specs.declared.stacks.Taken.{Taken}
use Rattle.strm_pair.specs.ModuleLists.{closed-below, held-below, once-is, pairs-same}
use Rattle.strm_pair.specs.Shows.{one_pair, pairs_of}
use Rattle.strm_pair.specs.Taken.{TookTop, let_go_of}

-- nothing is left on a queue from which all went
none-behind : (q : queue.Queue ℕ) → (queue_behind of_all q).messages ≡ []
none-behind q = by (none_goes of_all q)
  where
    by : (b : Bool) → (cond b (emptied of_all q) (queue.relieved (emptied of_all q))).messages ≡ []
    by true = all-gone q.messages
    by false = all-gone q.messages

no-chain : (l : List (List Block)) → map message_of l ≡ [] → l ≡ []
no-chain [] none = refl
no-chain (chain ∷ l) none = absurd (cc)

abbrev rest_of : {A : Type 0} → List A → List A
rest_of [] = []
rest_of (x ∷ xs) = xs

abbrev first_or : {A : Type 0} → A → List A → A
first_or d [] = d
first_or d (x ∷ xs) = x

abbrev name_or : Option ModuleName → ModuleName
name_or None = names.Ldterm
name_or (Some name) = name

-- no module stands on a stack that has no name on top
pub none-top : (s : StoreValue) (xs : List AnyStanding) → top_name module_name (map (module_in s) xs) ≡ None → map (module_in s) xs ≡ []
none-top s [] none = refl
none-top s (x ∷ xs) none = absurd (cc)

module _ (s t : StoreValue) (side : Side) (rule : Rule) where
  -- as many have queues as before
  kept-pair : (p : Standing ℕ) → one_pair (let_go_of side rule p).state.queues ≡ one_pair p.queues
  kept-pair p = by p.queues
    where
      by : (queues : Option (plain.QueuePair ℕ)) → one_pair (let_go_of side rule (plain.stood p.part queues)).state.queues ≡ one_pair queues
      by None = refl
      by (Some pair) = refl

  kept-pairs : (ms : List (Standing ℕ)) → pairs_of (act_among (let_go_of side rule) 0 ms).state ≡ pairs_of ms
  kept-pairs [] = refl
  kept-pairs (p ∷ ps) = omega (
    arith,
    sum_by-cons (λ (q : Standing ℕ). one_pair q.queues) (let_go_of side rule p).state ps,
    sum_by-cons (λ (q : Standing ℕ). one_pair q.queues) p ps,
    kept-pair p,
  )

  pub cleared-pairs : (xs ys : List AnyStanding) → map (module_in t) ys ≡ (act_among (let_go_of side rule) 0 (map (module_in s) xs)).state
      → sum_by (λ (y : AnyStanding). one_pair y.queues) ys ≡ sum_by (λ (y : AnyStanding). one_pair y.queues) xs
  cleared-pairs xs ys state = sym (pairs-same t ys) ∙ ap pairs_of state ∙ kept-pairs (map (module_in s) xs) ∙ pairs-same s xs

  -- nothing stands on the lists of queues that let all go
  abbrev let_go : Option (plain.QueuePair ℕ) → Option (plain.QueuePair ℕ)
  let_go queues = (queues_cleared side rule Down (queues_cleared side rule Up queues).state).state

  abbrev reads_of : Option (plain.QueuePair ℕ) → List (Message ℕ)
  reads_of queues = messages_on Up queues

  abbrev writes_of : Option (plain.QueuePair ℕ) → List (Message ℕ)
  writes_of queues = messages_on Down queues

  cleared-pair : (x y : QueuePair) (k : ℕ) → queues_in t (Some y) ≡ let_go (queues_in s (Some x)) → 0 < queues_own (Some y) k → list_at t k ≡ []
  cleared-pair x y k is some = by (once y.read.list k) refl
    where
      reads : list_at t y.read.list ≡ []
      reads = no-chain (list_at t y.read.list) (ap reads_of is ∙ none-behind (queue_in s x.read))

      writes : list_at t y.write.list ≡ []
      writes = no-chain (list_at t y.write.list) (ap writes_of is ∙ none-behind (queue_in s x.write))

      by : (n : ℕ) → once y.read.list k ≡ n → list_at t k ≡ []
      by zero none = subst (λ l. list_at t l ≡ []) (once-is y.write.list k (omega (arith, some, none))) writes
      by (suc n) one = subst (λ l. list_at t l ≡ []) (once-is y.read.list k (omega (arith, one))) reads

  cleared-queues : (x y : Option QueuePair) (k : ℕ) → queues_in t y ≡ let_go (queues_in s x) → 0 < queues_own y k → list_at t k ≡ []
  cleared-queues x None k is some = absurd (omega (arith, some))
  cleared-queues None (Some y) k is some = absurd (cc (is))
  cleared-queues (Some x) (Some y) k is some = cleared-pair x y k is some

  cleared-list : (x y : AnyStanding) (k : ℕ) → module_in t y ≡ (let_go_of side rule (module_in s x)).state → 0 < owns y k → list_at t k ≡ []
  cleared-list x y k is some = cleared-queues x.queues y.queues k (ap (λ (p : Standing ℕ). p.queues) is) some

  module _ (told told' : Fates) (taken : Taken) (a b c : Stack AnyModule) where
    -- the stack before it, behind the clearing, and without the module
    took-these : (x : AnyStanding) (xs : List AnyStanding) (y : AnyStanding) → a.modules.items ≡ x ∷ xs → b.modules.items ≡ y ∷ c.modules.items
        → taken.name ≡ module_name (module_in s x)
        → map (module_in t) b.modules.items ≡ (act_among (let_go_of side rule) 0 (map (module_in s) a.modules.items)).state
        → taken.notes.items ≡ (act_among (let_go_of side rule) 0 (map (module_in s) a.modules.items)).notes
        → told' ≡ tallied (act_among (let_go_of side rule) 0 (map (module_in s) a.modules.items)).gone told
        → AreHeld IsHeld owns t b.modules.items → ((i : ℕ) → all_of keeps b.modules.items i ≡ 0)
        → OnlyOwn s t (all_of owns a.modules.items) (all_of owns b.modules.items) → SameHand s t → FreesBlocks s t
        → TookTop side rule s t a c told told' taken
    took-these x xs y before behind named state notes tells held rests own hand frees =
        let was = ap (map (module_in s)) before in
        let act = λ (ps : List (Standing ℕ)). act_among (let_go_of side rule) 0 ps in
        let all : module_in t y ∷ map (module_in t) c.modules.items ≡ (let_go_of side rule (module_in s x)).state ∷ map (module_in s) xs = ap (map (module_in t)) (sym behind) ∙ state ∙ ap (λ ps. (act ps).state) was in
        let both : AreHeld IsHeld owns t (y ∷ c.modules.items) = subst (AreHeld IsHeld owns t) behind held in
        let owned : (k : ℕ) → owns y k + all_of owns c.modules.items k ≡ all_of owns a.modules.items k = λ k. sym (sum_by-cons (λ z. owns z k) y c.modules.items) ∙ ap (λ zs. all_of owns zs k) (sym behind) ∙ own.owns_same k in
        record {
          top = module_in s x;
          rest = map (module_in s) xs;
          was = was;
          name = named;
          notes = notes ∙ ap (λ ps. (act ps).notes) was;
          tells = tells ∙ ap (λ ps. tallied (act ps).gone told) was;
          stays = ap rest_of all;
          held = held-below t 0 y c.modules.items both;
          rests = λ i. omega (arith, rests i, ap (λ zs. all_of keeps zs i) behind, sum_by-cons (λ z. keeps z i) y c.modules.items);
          owns = λ k. omega (arith, owned k);
          closed = λ j k le one some. closed-below t 0 y c.modules.items both j k le (omega (arith, one, owned j, sum_by-cons (λ z. owns z j) y c.modules.items)) some;
          others = own.lists;
          emptied = λ k some none. cleared-list x y k (ap (first_or (module_in t y)) all) (omega (arith, owned k, some, none));
          hand = hand;
          frees = frees;
        }

    pub took-top : top_name module_name (map (module_in s) a.modules.items) ≡ Some taken.name
        → map (module_in t) b.modules.items ≡ (act_among (let_go_of side rule) 0 (map (module_in s) a.modules.items)).state
        → taken.notes.items ≡ (act_among (let_go_of side rule) 0 (map (module_in s) a.modules.items)).notes
        → told' ≡ tallied (act_among (let_go_of side rule) 0 (map (module_in s) a.modules.items)).gone told
        → AreHeld IsHeld owns t b.modules.items → ((i : ℕ) → all_of keeps b.modules.items i ≡ 0)
        → OnlyOwn s t (all_of owns a.modules.items) (all_of owns b.modules.items) → SameHand s t → FreesBlocks s t
        → ((y : AnyStanding) (ys : List AnyStanding) → b.modules.items ≡ y ∷ ys → c.modules.items ≡ ys)
        → TookTop side rule s t a c told told' taken
    took-top top state notes tells held rests own hand frees rest = by a.modules.items refl b.modules.items refl
      where
        by : (l : List AnyStanding) → a.modules.items ≡ l → (m : List AnyStanding) → b.modules.items ≡ m → TookTop side rule s t a c told told' taken
        by [] none m is = absurd (let e = sym top ∙ ap (λ l. top_name module_name (map (module_in s) l)) none in cc)
        by (x ∷ xs) before [] none = absurd (let e = sym (ap (map (module_in t)) none) ∙ state ∙ ap (λ l. (act_among (let_go_of side rule) 0 (map (module_in s) l)).state) before in cc)
        by (x ∷ xs) before (y ∷ ys) is =
            took-these x xs y before (is ∙ ap (λ l. y ∷ l) (sym (rest y ys is))) (ap name_or (sym top ∙ ap (λ l. top_name module_name (map (module_in s) l)) before)) state notes tells held rests own hand frees
