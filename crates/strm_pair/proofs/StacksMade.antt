-- The modules of a text, placed one on top of the other.
use Rattle.strm_pair.proofs.Prelude.{ℕ, zero, suc, ◌≡◌, ◌≤◌, ◌<◌, ◌+◌, ◌*◌, List, [], ◌∷◌, length, map, refl, sym, ap, subst, ◌∙◌, arith, sum_by, Option, None, Some}
use Rattle.strm_pair.proofs.Prelude.{length-map, sum_by-cons, once-self, is_some}
use Rattle.strm_pair.specs.Prelude.{Standing, stood, have_queues, kind_name, StoreValue, list_at, HasRoom, SameOwn, once, stack-stays}
use Rattle.strm_pair.specs.Prelude.{all_of, AreHeld, ModuleText, module_now, modules_now, QueuePair, queues_in}
use Rattle.strm_pair.specs.Prelude.{IsPairReady, owns, pair_in, queues_own, standing}
use Rattle.strm_image.specs.declared.modules.QueuesText.{QueuesText}
use Rattle.strm_image.specs.ModuleTexts.{kind_now, own_pair_now, pair_now}
use Rattle.strm_pair.specs.declared.modules.AnyModule.{AnyModule}
use Rattle.strm_pair.specs.declared.shelves.Shelf.{Shelf}
use Rattle.strm_pair.specs.AnyModules.{AnyStanding, IsHeld, IsKindHeld, any-frame, keeps, kind_in, kind_keeps, module_in}
use Rattle.strm_pair.specs.ModuleLists.{Lines, Spans, for-lines, pairs-same, spans}
use Rattle.strm_pair.specs.Placing.{ArePlaced, AreStacked, IsFreeFor, IsModuleText, IsPlaced, module_blocks, queues_pair, text_pair}
use Rattle.strm_pair.specs.Runs.{Spent}
use Rattle.strm_pair.specs.Shelves.{room_on, tables_on}
use Rattle.strm_pair.specs.Shows.{one_pair, pairs_of}
use Rattle.strm_pair.specs.Standing.{FillsTwo, pair_blocks}
use Rattle.strm_pair.proofs.StackTops.{top-for, top-held}

-- ---- how many have queues

one-text : (m : ModuleText) → one_pair (module_now m).queues ≡ text_pair m
one-text m = by m.queues
  where
    by : (queues : Option QueuesText) → one_pair (own_pair_now queues) ≡ queues_pair queues
    by None = refl
    by (Some q) = refl

pub text-pairs : (ms : List ModuleText) → pairs_of (modules_now ms) ≡ sum_by text_pair ms
text-pairs [] = refl
text-pairs (m ∷ ms) = omega (arith, sum_by-cons (λ (p : Standing ℕ). one_pair p.queues) (module_now m) (modules_now ms), sum_by-cons text_pair m ms, one-text m, text-pairs ms)

one-most : (m : ModuleText) → text_pair m ≤ 1
one-most m = by m.queues
  where
    by : (queues : Option QueuesText) → queues_pair queues ≤ 1
    by None = omega arith
    by (Some q) = omega arith

pub pairs-few : (ms : List ModuleText) → sum_by text_pair ms ≤ length ms
pairs-few [] = omega arith
pairs-few (m ∷ ms) = omega (arith, sum_by-cons text_pair m ms, one-most m, pairs-few ms)

-- ---- with one module more on top

module _ {s t : StoreValue} {first : ℕ} {was mid : Shelf} {ms : List ModuleText} {xs : List AnyStanding} (below : AreStacked s t first was mid ms xs) where
  abbrev many : ℕ
  many = 2 * sum_by (λ (y : AnyStanding). one_pair y.queues) xs

  pairs-are : sum_by (λ (y : AnyStanding). one_pair y.queues) xs ≡ sum_by text_pair ms
  pairs-are = sym (pairs-same t xs) ∙ ap pairs_of below.state ∙ text-pairs ms

  lines : Lines first (all_of owns xs)
  lines = for-lines t first (all_of owns xs) below.lists

  above : Spans first many (all_of owns xs)
  above = spans t first xs below.held lines

  -- as many stand there as in the text
  pub stacked-length : length xs ≡ length ms
  stacked-length = sym (length-map xs (module_in t)) ∙ ap length below.state ∙ length-map ms module_now

  -- it finds its lists empty, and tables on the shelf
  pub free-next : (m : ModuleText) → first ≤ 10 → length (m ∷ ms) ≤ 3 → sum_by text_pair (m ∷ ms) ≤ tables_on was → 0 < text_pair m → IsFreeFor t (first + many) mid
  free-next m low few enough has =
      let room : many ≤ 4 = omega (arith, pairs-are, pairs-few ms, few) in
      record {
        list = omega (arith, low, room);
        reads = below.lists.spare (first + many) (omega arith) (omega (arith, room)) (above.none (first + many) (omega arith));
        writes = below.lists.spare (first + many + 1) (omega arith) (omega (arith, room)) (above.none (first + many + 1) (omega arith));
        tables = omega (arith, below.shelf.tables, enough, has, sum_by-cons text_pair m ms);
      }

  module _ {u : StoreValue} {is : Shelf} {m : ModuleText} {x : AnyStanding} (placed : IsPlaced t u (first + many) mid is m x) (few : length (m ∷ ms) ≤ 3) where
    -- a list that isn't one of its own stays
    stays : (k : ℕ) → (k ≡ first + many → text_pair m ≡ 0) → (k ≡ first + many + 1 → text_pair m ≡ 0) → list_at u k ≡ list_at t k
    stays k one two = by (text_pair m) refl
      where
        by : (n : ℕ) → text_pair m ≡ n → list_at u k ≡ list_at t k
        by zero none = ap (λ (v : StoreValue). list_at v k) (placed.stays none)
        by (suc n) some = placed.fills.others k (λ e. absurd (omega (arith, some, one e))) (λ e. absurd (omega (arith, some, two e)))

    low-stays : (k : ℕ) → 0 < all_of owns xs k → list_at u k ≡ list_at t k
    low-stays k some = stays k
        (λ e. absurd (omega (arith, some, above.none k (omega (arith, e))))) (λ e. absurd (omega (arith, some, above.none k (omega (arith, e)))))

    same : SameOwn t u (all_of owns xs) (all_of keeps xs)
    same = record {
      lists = low-stays;
      mblks = placed.fills.mblks;
      dblks = placed.fills.dblks;
      kept = λ i some. absurd (omega (arith, some, below.rests i));
    }

    others : (map (module_in u) xs ≡ map (module_in t) xs) × AreHeld IsHeld owns u xs
    others = stack-stays module_in IsHeld owns keeps any-frame t u xs same below.held

    own-at : one_pair x.queues ≡ 1 → (k : ℕ) → owns x k ≡ once (first + many) k + once (first + many + 1) k
    own-at one k = placed.own (omega (arith, one, placed.pairs)) k

    room : one_pair x.queues ≡ 1 → many + 2 ≤ 6
    room one = omega (arith, pairs-are, pairs-few ms, few)

    -- what is no module's is empty
    spare : (k : ℕ) → first ≤ k → k < first + 6 → all_of owns (x ∷ xs) k ≡ 0 → list_at u k ≡ []
    spare k low high none =
        let parts = sum_by-cons (λ y. owns y k) x xs in
        stays k (λ e. own-none k e (omega (arith, none, parts))) (λ e. next-none k e (omega (arith, none, parts)))
        ∙ below.lists.spare k low high (omega (arith, none, parts))
      where
        own-none : (k : ℕ) → k ≡ first + many → owns x k ≡ 0 → text_pair m ≡ 0
        own-none k e none = by (text_pair m) refl
          where
            by : (n : ℕ) → text_pair m ≡ n → text_pair m ≡ 0
            by zero is = is
            by (suc n) some = absurd (omega (arith, none, placed.own (omega (arith, some)) k, ap (λ j. once (first + many) j) e, once-self (first + many)))

        next-none : (k : ℕ) → k ≡ first + many + 1 → owns x k ≡ 0 → text_pair m ≡ 0
        next-none k e none = by (text_pair m) refl
          where
            by : (n : ℕ) → text_pair m ≡ n → text_pair m ≡ 0
            by zero is = is
            by (suc n) some = absurd (omega (arith, none, placed.own (omega (arith, some)) k, ap (λ j. once (first + many + 1) j) e, once-self (first + many + 1)))

    -- a list that isn't for the stack stays
    outside : (k : ℕ) → (first ≤ k → first + 6 ≤ k) → list_at u k ≡ list_at t k
    outside k out = stays k (λ e. far e) (λ e. next-far e)
      where
        far : k ≡ first + many → text_pair m ≡ 0
        far e = by (text_pair m) refl
          where
            by : (n : ℕ) → text_pair m ≡ n → text_pair m ≡ 0
            by zero is = is
            by (suc n) some = absurd (omega (arith, room (omega (arith, placed.pairs, some, one-most m)), e, out (omega (arith, e))))

        next-far : k ≡ first + many + 1 → text_pair m ≡ 0
        next-far e = by (text_pair m) refl
          where
            by : (n : ℕ) → text_pair m ≡ n → text_pair m ≡ 0
            by zero is = is
            by (suc n) some = absurd (omega (arith, room (omega (arith, placed.pairs, some, one-most m)), e, out (omega (arith, e))))

    pub stacked-top : AreStacked s u first was is (m ∷ ms) (x ∷ xs)
    stacked-top = record {
      state = ap (λ p. p ∷ map (module_in u) xs) placed.state ∙ ap (λ ps. module_now m ∷ ps) (others.0 ∙ below.state);
      held = top-held u first x xs placed.held others.1 lines own-at;
      rests = λ i. omega (arith, sum_by-cons (λ y. keeps y i) x xs, below.rests i, placed.rests i);
      lists = top-for u first x xs placed.held others.1 lines own-at room below.lists.owned spare;
      shelf = record {
        tables = omega (arith, below.shelf.tables, placed.shelf.tables, sum_by-cons text_pair m ms);
        room = omega (arith, below.shelf.room, placed.shelf.room);
      };
      others = λ k out. outside k out ∙ below.others k out;
      hand = placed.fills.hand ∙ below.hand;
      mblks = placed.fills.mblks ∙ below.mblks;
      dblks = placed.fills.dblks ∙ below.dblks;
      spent = record {
        mblks = omega (arith, below.spent.mblks, placed.spent.mblks, sum_by-cons module_blocks m ms);
        dblks = omega (arith, below.spent.dblks, placed.spent.dblks, sum_by-cons module_blocks m ms);
      };
    }

-- and where none stands
pub stacked-none : (s : StoreValue) (first : ℕ) (shelf : Shelf) (xs : List AnyStanding) → xs ≡ [] → ((k : ℕ) → first ≤ k → k < first + 6 → list_at s k ≡ [])
    → AreStacked s s first shelf shelf [] xs
stacked-none s first shelf xs none empty = subst (λ ys. AreStacked s s first shelf shelf [] ys) (sym none) (record {
  state = refl;
  held = record { each = tt; apart = λ k. omega arith; order = tt };
  rests = λ i. refl;
  lists = record { owned = λ k some. absurd (omega (arith, some)); closed = λ j k low le some. absurd (omega (arith, some)); spare = λ k low high own. empty k low high };
  shelf = record { tables = omega arith; room = omega arith };
  others = λ k out. refl;
  hand = refl;
  mblks = refl;
  dblks = refl;
  spent = record { mblks = omega arith; dblks = omega arith };
})

-- ---- the blocks for the one on top, behind those below it

pub room-next : (s t : StoreValue) (m : ModuleText) (ms : List ModuleText) → HasRoom s (sum_by module_blocks (m ∷ ms)) → Spent s t (sum_by module_blocks ms) → HasRoom t (module_blocks m)
room-next s t m ms room spent = record {
  mblks = omega (arith, room.mblks, spent.mblks, sum_by-cons module_blocks m ms);
  dblks = omega (arith, room.dblks, spent.dblks, sum_by-cons module_blocks m ms);
}

pub room-rest : (s : StoreValue) (m : ModuleText) (ms : List ModuleText) → HasRoom s (sum_by module_blocks (m ∷ ms)) → HasRoom s (sum_by module_blocks ms)
room-rest s m ms room = record {
  mblks = omega (arith, room.mblks, sum_by-cons module_blocks m ms);
  dblks = omega (arith, room.dblks, sum_by-cons module_blocks m ms);
}

-- ---- queues, or none

pub placed-none : (s : StoreValue) (first : ℕ) (shelf : Shelf) → ArePlaced s s first shelf shelf None None
placed-none s first shelf = record {
  state = refl;
  ready = tt;
  has = refl;
  pairs = refl;
  own = λ some. absurd (omega (arith, some));
  stays = λ none. refl;
  shelf = record { tables = omega arith; room = omega arith };
  fills = record { others = λ k a b. refl; hand = refl; mblks = refl; dblks = refl };
  spent = record { mblks = omega arith; dblks = omega arith };
}

pub placed-pair : (s t : StoreValue) (first : ℕ) (was is : Shelf) (text : QueuesText) (pair : QueuePair) → pair_in t pair ≡ pair_now text
    → IsPairReady t pair → ((k : ℕ) → queues_own (Some pair) k ≡ once first k + once (first + 1) k) → FillsTwo s t first → Spent s t (pair_blocks text)
    → tables_on is + 1 ≡ tables_on was → room_on is ≡ room_on was → ArePlaced s t first was is (Some text) (Some pair)
placed-pair s t first was is text pair pair_is ready own fills spent taken room = record {
  state = ap Some pair_is;
  ready = ready;
  has = refl;
  pairs = refl;
  own = λ some. own;
  stays = λ none. absurd (omega (arith, none));
  shelf = record { tables = omega (arith, taken); room = omega (arith, room) };
  fills = fills;
  spent = spent;
}

-- ---- a module with them

pub placed-module : (s t : StoreValue) (first : ℕ) (was is : Shelf) (text : ModuleText) (x : AnyModule) (queues : Option QueuePair)
    → IsModuleText text → kind_in t x ≡ kind_now text.kind
    → ((queues : Option QueuePair) → is_some queues ≡ have_queues (kind_name (kind_now text.kind)) → IsKindHeld t x queues)
    → ((i : ℕ) → kind_keeps x i ≡ 0) → ArePlaced s t first was is text.queues queues → IsPlaced s t first was is text (standing x queues)
placed-module s t first was is text x queues good kind fits rests placed = record {
  state = ap (λ part. stood part (queues_in t queues)) kind ∙ ap (λ own. stood (kind_now text.kind) own) placed.state;
  held = record { queues = placed.ready; itself = fits queues (placed.has ∙ good.has) };
  rests = rests;
  pairs = placed.pairs;
  own = placed.own;
  stays = placed.stays;
  shelf = placed.shelf;
  fills = placed.fills;
  spent = placed.spent;
}
