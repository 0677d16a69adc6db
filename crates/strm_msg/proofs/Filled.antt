-- Blocks without bytes that leave a message.
use Rattle.std.proofs.Common.{ℕ, zero, suc, ◌≡◌, ◌≢◌, ◌≤◌, ◌<◌, Bool, true, false, cond, eqb, List, [], ◌∷◌, ◌++◌, length, inl, inr, Option, None, Some, refl, sym, ap, subst, ◌∙◌, arith}
use Rattle.std.specs.Prelude.{MatchOption, nat_lt}
use Rattle.std.proofs.lemmas.Bool.{cases_eq}
use Rattle.std.proofs.lemmas.Bool.Decides.{nat_tests}
use Rattle.std.proofs.lemmas.List.{nil_from_length}
use Rattle.strm_blocks.specs.Blocks.{Block, Held, StoreValue, IsInHand, banded, block_at, changed, dropped, in_hand, times_in, without, token}
use Rattle.strm_blocks.specs.Outcomes.{Unlinked}
use Rattle.strm_blocks.proofs.Laws.{IsInHand-dropped, in_hand-dropped}
use Rattle.strm_blocks.specs.declared.in_hand.InHand.{InHand}
use Rattle.strm_msg.specs.Bytes.{bytes_of}
use Rattle.strm_msg.specs.Emptied.{filled_blocks, without_emptied, Beside, FreedWhole}
use Rattle.strm_msg.proofs.Beside.{beside-apart, beside-chain, beside-in_hand}
use Rattle.strm_msg.proofs.Hands.{other-name, gone, held-chain, changed-chain, changed-in_hand, changed-twice, dropped-changed}

-- a block that shows bytes stays, and another one goes
pub filled-stays : (b : Block) (chain : List Block) → 0 < length b.bytes → filled_blocks (b ∷ chain) ≡ b ∷ filled_blocks chain
filled-stays b chain some =
    let is : nat_lt 0 (length b.bytes) ≡ true = grind (arith, nat_tests) in
    ap (λ v. cond v (b ∷ filled_blocks chain) (filled_blocks chain)) is

pub filled-goes : (b : Block) (chain : List Block) → length b.bytes ≡ 0 → filled_blocks (b ∷ chain) ≡ filled_blocks chain
filled-goes b chain none =
    let is : nat_lt 0 (length b.bytes) ≡ false = grind (arith, nat_tests) in
    ap (λ v. cond v (b ∷ filled_blocks chain) (filled_blocks chain)) is

pub all-filled : (chain : List Block) → ((k : ℕ) → k < length chain → 0 < length (block_at k chain).bytes) → filled_blocks chain ≡ chain
all-filled [] each = refl
all-filled (b ∷ chain) each =
    filled-stays b chain (each 0 (omega arith)) ∙ ap (λ xs. b ∷ xs) (all-filled chain (λ k less. each (suc k) (omega (arith, less))))

fewer-filled : (chain : List Block) → length (filled_blocks chain) ≤ length chain
fewer-filled [] = omega arith
fewer-filled (b ∷ chain) =
    let ih = fewer-filled chain in
    elim (nat_lt 0 (length b.bytes)) as (λ v. length (cond v (b ∷ filled_blocks chain) (filled_blocks chain)) ≤ suc (length chain)) [ true ↦ omega arith | false ↦ omega arith ]

pub some-emptied : (k : ℕ) (chain : List Block) → k < length chain → length (block_at k chain).bytes ≡ 0 → length (filled_blocks chain) < length chain
some-emptied k [] within none = absurd (omega (arith, within))
some-emptied zero (b ∷ chain) within none = omega (arith, ap length (filled-goes b chain none), fewer-filled chain)
some-emptied (suc k) (b ∷ chain) within none =
    let ih = some-emptied k chain (omega (arith, within)) none in
    elim (nat_lt 0 (length b.bytes)) as (λ v. length (cond v (b ∷ filled_blocks chain) (filled_blocks chain)) < suc (length chain)) [ true ↦ omega (arith, ih) | false ↦ omega (arith, ih) ]

-- a message of one block that shows none
pub one-emptied : (chain : List Block) → length chain ≡ 1 → length (filled_blocks chain) < length chain → filled_blocks chain ≡ []
one-emptied chain one less = nil_from_length (filled_blocks chain) (omega (arith, one, less))

-- two messages go in either order
without-both : (i j : ℕ) → i ≢ j → (hand : List Held) → without j (without i hand) ≡ without i (without j hand)
without-both i j apart [] = refl
without-both i j apart (h ∷ hand) =
    let ih = without-both i j apart hand in
    elim (cases_eq h.name i) [
      | inl e ↦
          (let hit : eqb h.name i ≡ true = grind (arith, nat_tests) in
          let miss : eqb h.name j ≡ false = other-name h.name j (λ f. apart (sym e ∙ f)) in
          ap (λ v. without j (cond v hand (h ∷ without i hand))) hit ∙ sym (ap (λ v. without i (cond v hand (h ∷ without j hand))) miss ∙ ap (λ v. cond v (without j hand) (h ∷ without i (without j hand))) hit))
      | inr ne ↦
          (let miss : eqb h.name i ≡ false = other-name h.name i ne in
          ap (λ v. without j (cond v hand (h ∷ without i hand))) miss
          ∙ elim (eqb h.name j) as (λ v. cond v (without i hand) (h ∷ without j (without i hand)) ≡ without i (cond v hand (h ∷ without j hand))) [
            | true ↦ refl
            | false ↦ ap (λ xs. h ∷ xs) ih ∙ sym (ap (λ v. cond v (without j hand) (h ∷ without i (without j hand))) miss)
          ])
    ]

-- A message whose first block was parted from it, and of whose other blocks those were freed that show no bytes.
pub record Opened (s t : StoreValue) (i first : ℕ) (kept : Option InHand) : Type 0 where
  block : Block
  chain : List Block
  joined : in_hand s i ≡ block ∷ chain
  named : first ≡ i
  left : MatchOption kept ((filled_blocks chain ≡ []) × (t ≡ changed s i (block ∷ []))) (λ m. Beside (changed s i (block ∷ [])) t (token m) (filled_blocks chain))

-- what is behind the first block has one block less
pub behind-shorter : {s s1 : StoreValue} {i first r : ℕ} → Unlinked s s1 i first r → length (in_hand s1 r) < length (in_hand s i)
behind-shorter {s} {s1} {i} {first} {r} u =
    let behind : in_hand s1 r ≡ u.chain = ap (λ v. in_hand v r) u.after ∙ held-chain (changed s i (u.block ∷ [])) r u.chain in
    omega (arith, ap length behind, ap length u.joined)

module _ {s s1 : StoreValue} {i first : ℕ} where
  pub opened-more : {r : ℕ} → Unlinked s s1 i first r → {t : StoreValue} (kept : Option InHand)
      → MatchOption kept (FreedWhole s1 t r) (λ m. Beside (dropped s1 r) t (token m) (filled_blocks (in_hand s1 r))) → Opened s t i first kept
  opened-more {r} u {t} kept left =
      let base = changed s i (u.block ∷ []) in
      let behind : in_hand s1 r ≡ u.chain = ap (λ v. in_hand v r) u.after ∙ held-chain base r u.chain in
      let without_it : dropped s1 r ≡ base = ap (λ v. dropped v r) u.after ∙ gone base r u.chain in
      record { block = u.block; chain = u.chain; joined = u.joined; named = u.kept_name; left = at behind without_it kept left }
    where
      at : in_hand s1 r ≡ u.chain → dropped s1 r ≡ changed s i (u.block ∷ []) → (kept : Option InHand) → MatchOption kept (FreedWhole s1 t r) (λ m. Beside (dropped s1 r) t (token m) (filled_blocks (in_hand s1 r)))
          → MatchOption kept ((filled_blocks u.chain ≡ []) × (t ≡ changed s i (u.block ∷ []))) (λ m. Beside (changed s i (u.block ∷ [])) t (token m) (filled_blocks u.chain))
      at behind without_it None f = (ap filled_blocks (sym behind) ∙ f.none, f.after ∙ without_it)
      at behind without_it (Some m) f = record { here = f.here; chain_is = f.chain_is ∙ ap filled_blocks behind; others = f.others ∙ without_it }

module _ {s t : StoreValue} {i first : ℕ} (is : IsInHand s i) where
  -- the rest is another message, and the first block is in hand still
  module _ {m : InHand} (o : Opened s t i first (Some m)) where
    abbrev base : StoreValue
    base = changed s i (o.block ∷ [])

    base-in_hand : IsInHand base i
    base-in_hand = changed-in_hand s i (o.block ∷ []) i is

    apart : token m ≢ i
    apart = beside-apart o.left i base-in_hand

    some-in_hand : IsInHand t i
    some-in_hand = beside-in_hand o.left i base-in_hand

    some-chain : in_hand t i ≡ o.block ∷ []
    some-chain = beside-chain o.left i apart ∙ changed-chain s i (o.block ∷ []) is

    some-freed : {v : StoreValue} → length o.block.bytes ≡ 0 → v ≡ dropped t i → Beside (dropped s i) v (token m) (filled_blocks (in_hand s i))
    some-freed {v} none v_is = record {
      here = ap (λ (w : StoreValue). times_in (token m) w.hand) v_is ∙ IsInHand-dropped t i (token m) (λ e. apart (sym e)) o.left.here;
      chain_is = ap (λ w. in_hand w (token m)) v_is ∙ in_hand-dropped t i (token m) (λ e. apart (sym e)) ∙ o.left.chain_is ∙ sym (ap filled_blocks o.joined ∙ filled-goes o.block o.chain none);
      others = ap (λ w. dropped w (token m)) v_is ∙ ap (λ h. record t { hand = h }) (without-both i (token m) (λ e. apart (sym e)) t.hand)
          ∙ ap (λ w. dropped w i) o.left.others ∙ dropped-changed s i (o.block ∷ []);
    }

    pub opened-apart : first ≢ token m
    opened-apart same = apart (sym same ∙ o.named)

    -- and is hung in front of it again
    pub opened-linked : {v : StoreValue} {w : ℕ} → 0 < length (block_at 0 (in_hand s i)).bytes → w ≡ first → v ≡ changed (dropped t (token m)) first (in_hand t first ++ in_hand t (token m)) → Beside (dropped s i) v w (filled_blocks (in_hand s i))
    opened-linked {v} {w} some w_is v_is =
        let rest = filled_blocks o.chain in
        let whole : v ≡ changed s i (o.block ∷ rest) =
        v_is ∙ ap (λ k. changed (dropped t (token m)) k (in_hand t k ++ in_hand t (token m))) o.named
        ∙ ap (λ xs. changed (dropped t (token m)) i (xs ++ in_hand t (token m))) some-chain
        ∙ ap (λ xs. changed (dropped t (token m)) i (o.block ∷ xs)) o.left.chain_is
        ∙ ap (λ z. changed z i (o.block ∷ rest)) o.left.others
        ∙ changed-twice s i (o.block ∷ []) (o.block ∷ rest) in
        subst (λ k. Beside (dropped s i) v k (filled_blocks (in_hand s i))) (sym (w_is ∙ o.named)) (record {
          here = ap (λ (z : StoreValue). times_in i z.hand) whole ∙ changed-in_hand s i (o.block ∷ rest) i is;
          chain_is = ap (λ z. in_hand z i) whole ∙ changed-chain s i (o.block ∷ rest) is
              ∙ sym (ap filled_blocks o.joined ∙ filled-stays o.block o.chain (subst (λ xs. 0 < length (block_at 0 xs).bytes) o.joined some));
          others = ap (λ z. dropped z i) whole ∙ dropped-changed s i (o.block ∷ rest);
        })

  -- or there is none
  module _ (o : Opened s t i first None) where
    none-in_hand : IsInHand t i
    none-in_hand = ap (λ (v : StoreValue). times_in i v.hand) o.left.1 ∙ changed-in_hand s i (o.block ∷ []) i is

    none-freed : {v : StoreValue} → length o.block.bytes ≡ 0 → v ≡ dropped t i → FreedWhole s v i
    none-freed {v} none v_is = record {
      none = ap filled_blocks o.joined ∙ filled-goes o.block o.chain none ∙ o.left.0;
      after = v_is ∙ ap (λ z. dropped z i) o.left.1 ∙ dropped-changed s i (o.block ∷ []);
    }

    pub opened-alone : 0 < length (block_at 0 (in_hand s i)).bytes → Beside (dropped s i) t first (filled_blocks (in_hand s i))
    opened-alone some = subst (λ k. Beside (dropped s i) t k (filled_blocks (in_hand s i))) (sym o.named) (record {
      here = none-in_hand;
      chain_is = ap (λ z. in_hand z i) o.left.1 ∙ changed-chain s i (o.block ∷ []) is
          ∙ sym (ap filled_blocks o.joined ∙ filled-stays o.block o.chain (subst (λ xs. 0 < length (block_at 0 xs).bytes) o.joined some) ∙ ap (λ xs. o.block ∷ xs) o.left.0);
      others = ap (λ z. dropped z i) o.left.1 ∙ dropped-changed s i (o.block ∷ []);
    })

  pub opened-first : (kept : Option InHand) → Opened s t i first kept → IsInHand t first
  opened-first None o = subst (IsInHand t) (sym o.named) (none-in_hand o)
  opened-first (Some m) o = subst (IsInHand t) (sym o.named) (some-in_hand o)

  pub opened-freed : (kept : Option InHand) → Opened s t i first kept → {v : StoreValue} → length (block_at 0 (in_hand s i)).bytes ≡ 0 → v ≡ dropped t first
      → MatchOption kept (FreedWhole s v i) (λ m. Beside (dropped s i) v (token m) (filled_blocks (in_hand s i)))
  opened-freed None o {v} none v_is = none-freed o (ap (λ xs. length (block_at 0 xs).bytes) (sym o.joined) ∙ none) (v_is ∙ ap (dropped t) o.named)
  opened-freed (Some m) o {v} none v_is = some-freed o (ap (λ xs. length (block_at 0 xs).bytes) (sym o.joined) ∙ none) (v_is ∙ ap (dropped t) o.named)

-- the bytes of a chain are those of the blocks that show some
pub filled-bytes : (chain : List Block) → bytes_of (filled_blocks chain) ≡ bytes_of chain
filled-bytes [] = refl
filled-bytes (b ∷ chain) = at (filled-bytes chain) b.bytes (nat_lt 0 (length b.bytes)) refl refl
  where
    at : bytes_of (filled_blocks chain) ≡ bytes_of chain → (bytes : List ℕ) (v : Bool) → b.bytes ≡ bytes → nat_lt 0 (length b.bytes) ≡ v
        → bytes_of (cond v (b ∷ filled_blocks chain) (filled_blocks chain)) ≡ b.bytes ++ bytes_of chain
    at ih bytes true is v = ap (λ xs. b.bytes ++ xs) ih
    at ih [] false is v = ih ∙ ap (λ xs. xs ++ bytes_of chain) (sym is)
    at ih (x ∷ bytes) false is v = absurd (let some : 0 < length b.bytes = omega (arith, ap length is) in grind (arith, nat_tests))

-- a message that shows bytes has a block that does
pub filled-some : (chain : List Block) → 0 < length (bytes_of chain) → filled_blocks chain ≢ []
filled-some chain some none = absurd (omega (arith, some, ap length (filled-bytes chain), ap (λ (xs : List Block). length (bytes_of xs)) none))

-- the message gets the band that it had
pub banded-again : (chain : List Block) {base t new : StoreValue} {j band : ℕ} → Beside base t j (filled_blocks chain) → band ≡ (block_at 0 chain).band → new ≡ changed t j (banded band (in_hand t j))
    → Beside base new j (without_emptied chain)
banded-again chain {base} {t} {new} {j} {band} b band_is is =
    let there : new ≡ changed t j (without_emptied chain) = is ∙ ap (λ xs. changed t j (banded band xs)) b.chain_is ∙ ap (λ n. changed t j (banded n (filled_blocks chain))) band_is in
    record {
      here = ap (λ (v : StoreValue). times_in j v.hand) there ∙ changed-in_hand t j (without_emptied chain) j b.here;
      chain_is = ap (λ v. in_hand v j) there ∙ changed-chain t j (without_emptied chain) b.here;
      others = ap (λ v. dropped v j) there ∙ dropped-changed t j (without_emptied chain) ∙ b.others;
    }
