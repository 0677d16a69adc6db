-- A message of two blocks, parted: its first block goes, and the second one is there twice.
use Rattle.std.proofs.Common.{ℕ, ◌≡◌, ◌≢◌, ◌≤◌, ◌+◌, cond, eqb, List, [], ◌∷◌, length, refl, sym, ap, subst, ◌∙◌, drop, arith}
use Rattle.std.proofs.lemmas.List.Sums.{sum_by-cons}
use Rattle.strm_blocks.specs.Blocks.{Block, StoreValue, IsStore, IsInHand, IsFreshName, block_at, in_hand, held, dropped, changed, times_in, names_of, references, total, used, free_d}
use Rattle.strm_blocks.specs.Outcomes.{Duplicated, Unlinked}
use Rattle.strm_blocks.proofs.Laws.{IsInHand-dropped, in_hand-changed, in_hand-changed_other, in_hand-dropped, total-changed, total-dropped, total-held, used-is, references-is, free_m-is, free_d-more}
use Rattle.strm_msg.proofs.Counts.{free_d-shared, named-in_hand}
use Rattle.strm_msg.proofs.Hands.{changed-in_hand, held-apart, held-chain, held-is, stays, stays-chain, times-replaced}
use Rattle.strm_frame.specs.Hands.{once, Shifts}
use Rattle.strm_frame.proofs.Handing.{once-apart}
use Rattle.strm_frame.proofs.Shifting.{shifts-freed}
use Rattle.strm_pty.specs.Shares.{AreShared, Parts}
use Rattle.strm_pty.proofs.Doing.{can-of, times-held}

two-blocks : (l : List Block) → length l ≡ 2 → l ≡ block_at 0 l ∷ block_at 1 l ∷ []
two-blocks [] long = absurd (omega (arith, long))
two-blocks (a ∷ []) long = absurd (omega (arith, long))
two-blocks (a ∷ b ∷ []) long = refl
two-blocks (a ∷ b ∷ c ∷ l) long = absurd (omega (arith, long))

-- what two blocks weigh
pair-names : (d : ℕ) (a b : Block) → names_of d (a ∷ b ∷ []) ≡ names_of d (a ∷ []) + names_of d (b ∷ [])
pair-names d a b =
    let weigh : Block → ℕ = λ x. cond (eqb x.number d) 1 0 in
    let both = sum_by-cons weigh a (b ∷ []) in
    let one = sum_by-cons weigh a [] in
    omega (arith, both, one)

module _ (s : StoreValue) (i c r f : ℕ) (t u : StoreValue) (is : IsInHand s i) (long : length (in_hand s i) ≡ 2) (dup : Duplicated s t c (block_at 1 (in_hand s i))) (parted : Unlinked t u i f r) where
  abbrev head : Block
  head = block_at 0 (in_hand s i)

  abbrev tail : Block
  tail = block_at 1 (in_hand s i)

  were : in_hand s i ≡ head ∷ tail ∷ []
  were = two-blocks (in_hand s i) long

  -- behind the duplicate
  apart-copy : c ≢ i
  apart-copy = held-apart s c (tail ∷ []) i dup.fresh_name is

  still-there : IsInHand t i
  still-there = ap (λ v. times_in i v.hand) dup.after ∙ stays s c (tail ∷ []) i dup.fresh_name is

  still : in_hand t i ≡ head ∷ tail ∷ []
  still = ap (λ v. in_hand v i) dup.after ∙ stays-chain s c (tail ∷ []) i apart-copy ∙ were

  copy-there : IsInHand t c
  copy-there = ap (λ v. times_in c v.hand) dup.after ∙ held-is s c (tail ∷ []) dup.fresh_name

  copy-is : in_hand t c ≡ tail ∷ []
  copy-is = ap (λ v. in_hand v c) dup.after ∙ held-chain s c (tail ∷ [])

  -- the first block alone, and then the payload beside it
  abbrev alone : StoreValue
  alone = changed t i (head ∷ [])

  fresh : IsFreshName alone r
  fresh = times-replaced i r (head ∷ []) t.hand ∙ parted.fresh_name

  parts-are : parted.block ∷ parted.chain ≡ head ∷ tail ∷ []
  parts-are = sym parted.joined ∙ still

  after : u ≡ held alone r (tail ∷ [])
  after =
      parted.after
      ∙ ap (λ l. held (changed t i (block_at 0 l ∷ [])) r (drop 1 l)) parts-are

  apart-rest : r ≢ i
  apart-rest = held-apart alone r (tail ∷ []) i fresh (changed-in_hand t i (head ∷ []) i still-there)

  apart-both : r ≢ c
  apart-both = held-apart t r (tail ∷ []) c parted.fresh_name copy-there

  pub first-there : IsInHand u i
  first-there = ap (λ v. times_in i v.hand) after ∙ stays alone r (tail ∷ []) i fresh (changed-in_hand t i (head ∷ []) i still-there)

  first-is : in_hand u i ≡ head ∷ []
  first-is = ap (λ v. in_hand v i) after ∙ stays-chain alone r (tail ∷ []) i apart-rest ∙ in_hand-changed t i (head ∷ []) still-there

  rest-there : IsInHand u r
  rest-there = ap (λ v. times_in r v.hand) after ∙ held-is alone r (tail ∷ []) fresh

  rest-is : in_hand u r ≡ tail ∷ []
  rest-is = ap (λ v. in_hand v r) after ∙ held-chain alone r (tail ∷ [])

  copy-stays : IsInHand u c
  copy-stays = ap (λ v. times_in c v.hand) after ∙ stays alone r (tail ∷ []) c fresh (changed-in_hand t i (head ∷ []) c copy-there)

  copy-same : in_hand u c ≡ tail ∷ []
  copy-same = ap (λ v. in_hand v c) after ∙ stays-chain alone r (tail ∷ []) c apart-both ∙ in_hand-changed_other t i c (head ∷ []) (λ e. apart-copy (sym e)) ∙ copy-is

  -- the first block goes
  abbrev new : StoreValue
  new = dropped u i

  shared : AreShared new r c
  shared = record {
    first_in = IsInHand-dropped u i r (λ e. apart-rest (sym e)) rest-there;
    second_in = IsInHand-dropped u i c (λ e. apart-copy (sym e)) copy-stays;
    apart = apart-both;
    payload = tail;
    first_is = in_hand-dropped u i r (λ e. apart-rest (sym e)) ∙ rest-is;
    second_is = in_hand-dropped u i c (λ e. apart-copy (sym e)) ∙ copy-same;
  }

  -- what all weigh then
  totals : (weigh : List Block → ℕ) → total weigh new + weigh (head ∷ tail ∷ []) ≡ total weigh t + weigh (tail ∷ [])
  totals weigh =
      let gone = total-dropped weigh u i first-there in
      let first = ap weigh first-is in
      let came = ap (total weigh) after ∙ total-held weigh alone r (tail ∷ []) in
      let one = total-changed weigh t i (head ∷ []) still-there in
      let old = ap weigh still in
      omega (arith, gone, first, came, one, old)

  used-same : used new ≡ used s
  used-same =
      let all = totals (λ l. length l) in
      let came = ap (total (λ l. length l)) dup.after ∙ total-held (λ l. length l) s c (tail ∷ []) in
      omega (arith, all, came, used-is new, used-is s)

  fewer : (d : ℕ) → references new d ≤ references t d
  fewer d =
      let all = totals (names_of d) in
      omega (arith, all, pair-names d head tail, references-is new d, references-is t d)

  named : (d : ℕ) → references s d ≡ 0 → names_of d (tail ∷ []) ≡ 0
  named d none =
      let few = named-in_hand s i d in
      let same = ap (names_of d) were in
      omega (arith, few, none, same, pair-names d head tail)

  free-more : free_d s ≤ free_d new
  free-more =
      let first = ap free_d dup.after ∙ free_d-shared s c (tail ∷ []) named in
      let second = free_d-more t new (ap (λ v. v.dblks) after) fewer in
      omega (arith, first, second)

  module _ (st : IsStore u) where
    hands : Shifts s new (once i) (λ j. once r j + once c j) 0
    hands = record {
      counts = λ j.
          let freed = (shifts-freed u i st (can-of u i first-there)).counts j in
          let came = ap (λ v. times_in j v.hand) after ∙ times-held alone r (tail ∷ []) j in
          let kept = times-replaced i j (head ∷ []) t.hand in
          let copied = ap (λ v. times_in j v.hand) dup.after ∙ times-held s c (tail ∷ []) j in
          omega (arith, freed, came, kept, copied);
      others = λ j none some.
          let ne = once-apart i j none in
          let copied = ap (λ v. times_in j v.hand) dup.after ∙ times-held s c (tail ∷ []) j in
          let not-rest : r ≢ j = λ e. (let f = ap (λ k. times_in k t.hand) (sym e) in let g = parted.fresh_name in absurd (omega (arith, f, g, copied, some))) in
          let not-copy : c ≢ j = λ e. (let f = ap (λ k. times_in k s.hand) (sym e) in let g = dup.fresh_name in absurd (omega (arith, f, g, some))) in
          in_hand-dropped u i j ne ∙ ap (λ v. in_hand v j) after ∙ stays-chain alone r (tail ∷ []) j not-rest ∙ in_hand-changed_other t i j (head ∷ []) ne
          ∙ ap (λ v. in_hand v j) dup.after ∙ stays-chain s c (tail ∷ []) j not-copy;
      mblks = omega (arith, used-same, free_m-is s, free_m-is new, ap (λ v. v.mblks) after, ap (λ v. v.mblks) dup.after);
      dblks = omega (arith, free-more);
      pool = record { mblks = ap (λ v. v.mblks) after ∙ ap (λ v. v.mblks) dup.after; dblks = ap (λ v. v.dblks) after ∙ ap (λ v. v.dblks) dup.after };
    }

    pub parts : (w : StoreValue) → w ≡ dropped u f → length head.bytes ≡ 16 → Parts s w i r c
    unfolding shared
    parts w freed sixteen =
        let now : w ≡ new = freed ∙ ap (λ k. dropped u k) parted.kept_name in
        subst (λ v. Parts s v i r c) (sym now) (record {
          lists = ap (λ v. v.lists) after ∙ ap (λ v. v.lists) dup.after;
          hands = hands;
          shared = shared;
          header = head;
          were = were;
          sixteen = sixteen;
        })
