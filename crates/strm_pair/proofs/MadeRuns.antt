-- Messages that are made of two runs of blocks, and what they stand for.
use Rattle.strm_pair.proofs.Prelude.{ℕ, zero, suc, ◌≡◌, ◌≢◌, ◌≤◌, ◌<◌, ◌+◌, inl, inr, true, false, List, [], ◌∷◌, ◌++◌, length, map, refl, sym, ap}
use Rattle.strm_pair.proofs.Prelude.{subst, ◌∙◌, arith, append-nil, control-front, data-behind, data-all, plain-is}
use Rattle.strm_pair.specs.Prelude.{MsgKind, is_data_kind, is_control_kind, Message, is_high_priority, chunk_count, chunks_of, Block, StoreValue}
use Rattle.strm_pair.specs.Prelude.{IsInHand, IsFreshName, block_at, in_hand, held, dropped, free_m, free_d, HasRoom, control_blocks, data_blocks}
use Rattle.strm_pair.specs.Prelude.{message_of, part_of, AreData, IsChain, bytes_in}
use Rattle.std.proofs.Common.{Option, None, Some}
use Rattle.std.specs.List.{AllByRecursion}
use Rattle.strm_types.specs.declared.kinds.MsgKind.TheVariants as kinds
use Rattle.strm_blocks.specs.Blocks.{changed}
use Rattle.strm_msg.specs.Bytes.{bytes_of, data_bytes}
use Rattle.strm_msg.specs.Made.{MadeOf, TooFew, copies_of, piece, pieces}
use Rattle.strm_msg.proofs.AdjustingBytes.{bytes-append}
use Rattle.strm_msg.proofs.Chains.{data-shown}
use Rattle.strm_msg.proofs.Counts.{free_m-joined, free_d-joined}
use Rattle.strm_msg.proofs.Hands.{grown, held-apart, held-chain}
use Rattle.strm_msg.proofs.Making.{made-in_hand, made-keeps}
use Rattle.strm_msg.proofs.Pieces.{chunk-some, length-pieces}
use Rattle.strm_pair.specs.Runs.{IsRun, IsPart, Joins, Spent, run_blocks}

-- ---- a run of pieces

pieces-kind : (kind : MsgKind) (band : ℕ) (chunks : List (List ℕ)) → AllByRecursion (λ b. b.kind ≡ kind) (map (piece kind band) chunks)
pieces-kind kind band [] = tt
pieces-kind kind band (xs ∷ chunks) = (refl, pieces-kind kind band chunks)

copies-kind : (kind : MsgKind) (numbers : List ℕ) (like : List Block) → AllByRecursion (λ b. b.kind ≡ kind) like → AllByRecursion (λ b. b.kind ≡ kind) (copies_of numbers like)
copies-kind kind [] like all = tt
copies-kind kind (n ∷ numbers) [] all = tt
copies-kind kind (n ∷ numbers) (b ∷ like) all = (all.0, copies-kind kind numbers like all.1)

first-copy : (kind : MsgKind) (band count : ℕ) (bytes numbers : List ℕ) → 0 < count → length numbers ≡ count
    → (0 < length (copies_of numbers (map (piece kind band) (chunks_of count bytes)))) × ((block_at 0 (copies_of numbers (map (piece kind band) (chunks_of count bytes)))).band ≡ band)
first-copy kind band zero bytes numbers some is = absurd (omega arith)
first-copy kind band (suc count) bytes [] some is = absurd (omega arith)
first-copy kind band (suc count) bytes (n ∷ numbers) some is = (omega arith, refl)

-- What was made of bytes, as a run, and how many blocks it took.
record Run (old new : StoreValue) (name : ℕ) (kind : MsgKind) (band : ℕ) (bytes : List ℕ) : Type 0 where
  chain : List Block
  run : IsRun kind band bytes chain
  fresh : IsFreshName old name
  spent : Spent old new (chunk_count (length bytes))
  after : new ≡ held old name chain

run-made : {old new : StoreValue} {i : ℕ} {kind : MsgKind} {band : ℕ} {bytes : List ℕ} → MadeOf old new i kind band bytes → Run old new i kind band bytes
run-made {old} {new} {i} {kind} {band} {bytes} m =
    let count = chunk_count (length bytes) in
    let chain = copies_of m.made.numbers (pieces kind band bytes) in
    let long : length m.made.numbers ≡ count = m.made.count ∙ length-pieces kind band bytes count in
    let here : in_hand new i ≡ chain = ap (λ v. in_hand v i) m.made.after ∙ held-chain old i chain in
    let first = first-copy kind band count bytes m.made.numbers (chunk-some (length bytes)) long in
    record {
      chain = chain;
      run = record {
        some = first.0;
        of_kind = copies-kind kind m.made.numbers (pieces kind band bytes) (pieces-kind kind band (chunks_of count bytes));
        band_is = first.1;
        shows = ap bytes_of (sym here) ∙ m.shows;
      };
      fresh = m.made.fresh_name;
      spent = record {
        mblks = omega (arith, m.made.room_m, length-pieces kind band bytes count);
        dblks = omega (arith, m.made.room_d, length-pieces kind band bytes count);
      };
      after = m.made.after;
    }

-- ---- one run, and one with another behind it

no-part : IsPart None []
no-part = record { of_data = tt; is = refl }

whole-part : (bytes : List ℕ) (chain : List Block) → IsRun kinds.Data 0 bytes chain → IsPart (Some bytes) chain
whole-part bytes [] run = absurd (omega (arith, run.some))
whole-part bytes (b ∷ chain) run = record { of_data = run.of_kind; is = ap Some run.shows }

pub joins-one : {old new : StoreValue} {i : ℕ} {kind : MsgKind} {band : ℕ} {front : List ℕ} → MadeOf old new i kind band front → Joins old new i kind band (front, None)
joins-one {old} {new} {i} m =
    let r = run-made m in
    record {
      front = r.chain;
      behind = [];
      run = r.run;
      part = no-part;
      fresh = r.fresh;
      spent = record { mblks = omega (arith, r.spent.mblks); dblks = omega (arith, r.spent.dblks) };
      after = r.after ∙ ap (held old i) (sym (append-nil r.chain));
    }

counts-both : (front behind : List ℕ) → run_blocks (front, Some behind) ≡ chunk_count (length front) + chunk_count (length behind)
unfolding chunk_count
counts-both front behind = refl

-- the first message is in hand still, apart from the second
module _ {old mid hung : StoreValue} {i j : ℕ} {kind : MsgKind} {band : ℕ} {front behind : List ℕ} (first : MadeOf old mid i kind band front) (second : MadeOf mid hung j kinds.Data 0 behind) where
  pub first-in_hand : IsInHand hung i
  first-in_hand = made-keeps second.made i (made-in_hand first.made)

  pub second-in_hand : IsInHand hung j
  second-in_hand = made-in_hand second.made

  pub both-apart : i ≢ j
  both-apart e = held-apart mid j (run-made second).chain i second.made.fresh_name (made-in_hand first.made) (sym e)

  pub joins-both : {new : StoreValue} {r : ℕ} → r ≡ i → new ≡ changed (dropped hung j) i (in_hand hung i ++ in_hand hung j) → Joins old new r kind band (front, Some behind)
  joins-both {new} {r} kept linked =
      let a = run-made first in
      let b = run-made second in
      let two : hung ≡ held (held old i a.chain) j b.chain = b.after ∙ ap (λ s. held s j b.chain) a.after in
      let after : new ≡ held old i (a.chain ++ b.chain) = linked ∙ ap (λ s. changed (dropped s j) i (in_hand s i ++ in_hand s j)) two ∙ grown old i j a.chain b.chain (λ e. both-apart (sym e)) in
      let same_m : free_m new ≡ free_m hung = ap free_m after ∙ sym (free_m-joined old i j a.chain b.chain) ∙ ap free_m (sym two) in
      let same_d : free_d new ≡ free_d hung = ap free_d after ∙ sym (free_d-joined old i j a.chain b.chain) ∙ ap free_d (sym two) in
      let all : run_blocks (front, Some behind) ≡ chunk_count (length front) + chunk_count (length behind) = counts-both front behind in
      let is : Joins old new i kind band (front, Some behind) = record {
        front = a.chain;
        behind = b.chain;
        run = a.run;
        part = whole-part behind b.chain b.run;
        fresh = a.fresh;
        spent = record {
          mblks = omega (arith, same_m, a.spent.mblks, b.spent.mblks, all);
          dblks = omega (arith, same_d, a.spent.dblks, b.spent.dblks, all);
        };
        after = after;
      } in
      subst (λ k. Joins old new k kind band (front, Some behind)) (sym kept) is

-- too few blocks are free only where there aren't that many
pub never-few : {old new : StoreValue} {n count : ℕ} → n ≤ count → HasRoom old count → TooFew old new n → ⊥
never-few le room few = elim few.few [ inl m ↦ absurd (omega (arith, m, le, room.mblks)) | inr d ↦ absurd (omega (arith, d, le, room.dblks)) ]

pub never-second : {old mid new : StoreValue} {i : ℕ} {kind : MsgKind} {band : ℕ} (front behind : List ℕ) → MadeOf old mid i kind band front → HasRoom old (run_blocks (front, Some behind)) → TooFew mid new (chunk_count (length behind)) → ⊥
never-second {old} {mid} front behind first room few =
    let a = run-made first in
    let left : HasRoom mid (chunk_count (length behind)) = record {
      mblks = omega (arith, room.mblks, a.spent.mblks, counts-both front behind);
      dblks = omega (arith, room.dblks, a.spent.dblks, counts-both front behind);
    } in
    never-few (omega arith) left few

-- ---- what the message stands for

abbrev pub with_parts : MsgKind → ℕ → Option (List ℕ) → Option (List ℕ) → List ℕ → Message ℕ
with_parts k band control body plain = record { kind = k; band = band; control = control; body = body; plain = plain }

same-parts : {k l : MsgKind} {b d : ℕ} {c e o p : Option (List ℕ)} {xs ys : List ℕ} → k ≡ l → b ≡ d → c ≡ e → o ≡ p → xs ≡ ys → with_parts k b c o xs ≡ with_parts l d e p ys
same-parts ke be ce oe xe = rw (ke, be, ce, oe, xe) refl

module _ {k : MsgKind} {band : ℕ} {bytes : List ℕ} where
  first-kind : (f r : List Block) → IsRun k band bytes f → (block_at 0 (f ++ r)).kind ≡ k
  first-kind [] r run = absurd (omega (arith, run.some))
  first-kind (b ∷ f) r run = run.of_kind.0

  first-band : (f r : List Block) → IsRun k band bytes f → (block_at 0 (f ++ r)).band ≡ band
  first-band [] r run = absurd (omega (arith, run.some))
  first-band (b ∷ f) r run = run.band_is

  front-part : (f : List Block) → IsRun k band bytes f → part_of f ≡ Some bytes
  front-part [] run = absurd (omega (arith, run.some))
  front-part (b ∷ f) run = ap Some run.shows

-- A chain of a run and M_DATA blocks behind it is a message.
data-run : (k : MsgKind) (f : List Block) → k ≡ kinds.Data → AllByRecursion (λ b. b.kind ≡ k) f → AreData f
data-run k [] is all = tt
data-run k (b ∷ f) is all = (all.0 ∙ is, data-run k f is all.1)

data-joined : (f r : List Block) → AreData f → AreData r → AreData (f ++ r)
data-joined [] r front rest = rest
data-joined (b ∷ f) r front rest = (front.0, data-joined f r front.1 rest)

some-joined : (f r : List Block) → 0 < length f → 0 < length (f ++ r)
some-joined [] r some = absurd (omega (arith, some))
some-joined (b ∷ f) r some = omega arith

pub chain-joined : {k : MsgKind} {band : ℕ} {bytes : List ℕ} {body : Option (List ℕ)} (f r : List Block) → IsRun k band bytes f → IsPart body r → (is_high_priority k ≡ true → band ≡ 0) → band < 256 → IsChain (f ++ r)
chain-joined {k} {band} {bytes} {body} f r run part high low =
    let kind = first-kind f r run in
    let at = first-band f r run in
    record {
      some = some-joined f r run.some;
      all_data = λ is. data-joined f r (data-run k f (sym kind ∙ is) run.of_kind) part.of_data;
      parted = λ control. record {
        front = f;
        behind = r;
        joined = refl;
        some = run.some;
        of_kind = subst (λ l. AllByRecursion (λ (b : Block). b.kind ≡ l) f) (sym kind) run.of_kind;
        of_data = part.of_data;
      };
      high = λ is. at ∙ high (ap is_high_priority (sym kind) ∙ is);
      low = omega (arith, at, low);
    }

none-behind : (r : List Block) → IsPart None r → r ≡ []
none-behind [] part = refl
none-behind (b ∷ r) part = absurd (let e = part.is in cc)

bytes-behind : {body : Option (List ℕ)} (r : List Block) → IsPart body r → bytes_of r ≡ bytes_in body
bytes-behind [] part = ap bytes_in part.is
bytes-behind (b ∷ r) part = ap bytes_in part.is

control-data : (k : MsgKind) → is_control_kind k ≡ true → is_data_kind k ≡ true
unfolding is_data_kind is_control_kind
control-data kinds.Proto is = refl
control-data kinds.Pcproto is = refl
control-data _ is = absurd cc

-- one with a control part
both-shown : (chain : List Block) → is_data_kind (block_at 0 chain).kind ≡ true → message_of chain ≡ with_parts (block_at 0 chain).kind (block_at 0 chain).band (part_of (control_blocks chain)) (part_of (data_blocks chain)) []
unfolding message_of
both-shown chain is = rw is refl

pub control-joined : {k : MsgKind} {band : ℕ} {bytes : List ℕ} {body : Option (List ℕ)} (f r : List Block) → is_control_kind k ≡ true → IsRun k band bytes f → IsPart body r → message_of (f ++ r) ≡ with_parts k band (Some bytes) body []
control-joined {k} {band} {bytes} {body} f r is run part =
    let kind = first-kind f r run in
    both-shown (f ++ r) (ap is_data_kind kind ∙ control-data k is)
    ∙ same-parts kind (first-band f r run) (ap part_of (control-front k f r is run.of_kind part.of_data) ∙ front-part f run) (ap part_of (data-behind k f r is run.of_kind part.of_data) ∙ part.is) refl

-- one of M_DATA
pub data-joined-is : {band : ℕ} {bytes : List ℕ} (f r : List Block) → IsRun kinds.Data band bytes f → IsPart None r → message_of (f ++ r) ≡ with_parts kinds.Data band None (Some bytes) []
data-joined-is {band} {bytes} f r run part =
    let whole : f ++ r ≡ f = ap (λ xs. f ++ xs) (none-behind r part) ∙ append-nil f in
    let kind = first-kind f [] run in
    let at = first-band f [] run in
    ap message_of (whole ∙ sym (append-nil f)) ∙ data-shown (f ++ []) (some-joined f [] run.some) kind
    ∙ same-parts refl at refl (ap Some (ap data_bytes (append-nil f) ∙ ap bytes_of (data-all f run.of_kind) ∙ run.shows)) refl

-- one without parts
pub plain-joined : {k : MsgKind} {band : ℕ} {bytes : List ℕ} {body : Option (List ℕ)} (f r : List Block) → is_data_kind k ≡ false → IsRun k band bytes f → IsPart body r → message_of (f ++ r) ≡ with_parts k band None None (bytes ++ bytes_in body)
plain-joined {k} {band} {bytes} {body} f r none run part =
    let kind = first-kind f r run in
    plain-is (f ++ r) (ap is_data_kind kind ∙ none)
    ∙ same-parts kind (first-band f r run) refl refl (bytes-append f r ∙ ap (λ xs. xs ++ bytes_of r) run.shows ∙ ap (λ xs. bytes ++ xs) (bytes-behind r part))
