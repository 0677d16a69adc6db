-- The outcomes of the calls that take blocks, from what is done to a store's fields.
use Rattle.std.proofs.Common.{ℕ, ◌≡◌, ◌<◌, ◌⊎◌, eqb, List, [], ◌∷◌, length, get_or, refl, sym, ◌∙◌, arith, inl, inr, subst}
use Rattle.std.proofs.Math.ListN.{set}
use Rattle.std.specs.Prelude.{count_by, slice_range}
use Rattle.std.proofs.lemmas.List.{get_or-set_same}
use Rattle.strm_types.specs.declared.kinds.MsgKind.{MsgKind}
use Rattle.strm_blocks.specs.Blocks.{Block, StoreValue, free_m, free_d}
use Rattle.strm_blocks.specs.Outcomes.{Allocated, Duplicated, Copied, NoneFree, NoneShared}
use Rattle.strm_blocks.specs.Message.{message_at, with_blocks}
use Rattle.strm_blocks.specs.Table.{shown, IsTable}
use Rattle.strm_blocks.specs.declared.message.Message.{Message}
use Rattle.strm_blocks.specs.declared.message.MessageBlock.{MessageBlock}
use Rattle.strm_blocks.proofs.Stores.{value, free_m-value, free_d-value, counted}
use Rattle.strm_blocks.proofs.Values.{times-value}
use Rattle.strm_blocks.proofs.Moves.{idle-some, idle-fresh}
use Rattle.strm_blocks.proofs.Frame.{lists-other, hand-other}

-- an outcome, of values that are equal to these
pub carried : {A B C D : Type 0} (P : A → B → C → D → Type 0) {a a' : A} {b b' : B} {c c' : C} {d d' : D} → a ≡ a' → b' ≡ b → c' ≡ c → d' ≡ d → P a b c d → P a' b' c' d'
carried P {a} {a'} {b} {b'} {c} {c'} {d} {d'} ea eb ec ed h =
    subst (λ x. P x b' c' d') ea (subst (λ x. P a x c' d') (sym eb) (subst (λ x. P a b x d') (sym ec) (subst (λ x. P a b c x) (sym ed) h)))

module _ {mblks : ℕ} {lists : List (List Message)} {hand idle : List Message} {spare : List MessageBlock} {counts : List ℕ} (bytes : List (List ℕ)) (is : IsTable mblks lists hand idle spare counts) where
  abbrev pub old : StoreValue
  old = value bytes lists hand mblks (length counts)

  spare-value : free_m old ≡ length spare
  spare-value = free_m-value bytes lists hand mblks (length counts) idle spare counts is

  unnamed-value : free_d old ≡ count_by (λ r. eqb r 0) counts
  unnamed-value = free_d-value bytes lists hand mblks (length counts) idle spare counts is refl

  pub NoneFree-value : (length spare ≡ 0) ⊎ (count_by (λ r. eqb r 0) counts ≡ 0) → NoneFree old old
  NoneFree-value none = record { none = elim none [ inl m ↦ inl (spare-value ∙ m) | inr d ↦ inr (unnamed-value ∙ d) ]; same = refl }

  pub NoneShared-messages : (number : ℕ) → length spare ≡ 0 → NoneShared old old number
  NoneShared-messages number none = record { none = inl (spare-value ∙ none); same = refl }

  pub NoneShared-full : (number : ℕ) → get_or counts number 0 ≡ 255 → NoneShared old old number
  NoneShared-full number full = record { none = inr (counted bytes lists hand mblks (length counts) idle spare counts is number ∙ full); same = refl }

  -- the store with the first idle message in hand
  abbrev pub with_idle : List (List ℕ) → MessageBlock → StoreValue
  with_idle after row = value after lists (with_blocks (row ∷ []) (message_at 0 idle) ∷ hand) mblks (length counts)

  pub Allocated-value : (kind : MsgKind) (number : ℕ) → 0 < length spare → 0 < count_by (λ r. eqb r 0) counts → number < length counts → get_or counts number 0 ≡ 0 → Allocated old (with_idle bytes (record { kind = kind; band = 0; number = number; start = 0; end = 0 })) (message_at 0 idle).name kind
  Allocated-value kind number some free within none = record {
    number = number;
    room_m = let s = spare-value in omega arith;
    room_d = let s = unnamed-value in omega arith;
    fresh_name = times-value bytes (message_at 0 idle).name hand ∙ idle-fresh is (idle-some is some);
    exists = within;
    fresh_number = counted bytes lists hand mblks (length counts) idle spare counts is number ∙ none;
    after = refl;
  }

  pub Duplicated-value : (row : MessageBlock) → 0 < length spare → get_or counts row.number 0 < 255 → Duplicated old (with_idle bytes row) (message_at 0 idle).name (shown bytes row)
  Duplicated-value row some few = record {
    room_m = let s = spare-value in omega arith;
    room_r = let c = counted bytes lists hand mblks (length counts) idle spare counts is row.number in omega arith;
    fresh_name = times-value bytes (message_at 0 idle).name hand ∙ idle-fresh is (idle-some is some);
    after = refl;
  }

  -- a copy of a block: its data block, which no block names, has the bytes at its front
  pub Copied-value : (b : Block) (number : ℕ) (content : List ℕ) (n : ℕ) → 0 < length spare → 0 < count_by (λ r. eqb r 0) counts → number < length counts → number < length bytes → get_or counts number 0 ≡ 0 → length b.bytes ≡ n → slice_range content 0 n ≡ b.bytes → Copied old (with_idle (set bytes number content) (record { kind = b.kind; band = b.band; number = number; start = 0; end = n })) (message_at 0 idle).name b
  Copied-value b number content n some free within there none len front =
      let weight = sym (is.referenced number) ∙ none in
      record {
        number = number;
        room_m = let s = spare-value in omega arith;
        room_d = let s = unnamed-value in omega arith;
        fresh_name = times-value bytes (message_at 0 idle).name hand ∙ idle-fresh is (idle-some is some);
        exists = within;
        fresh_number = counted bytes lists hand mblks (length counts) idle spare counts is number ∙ none;
        after = rw (lists-other bytes number content lists (omega arith), hand-other bytes number content hand (omega arith), get_or-set_same bytes number content [] there, front, len) refl;
      }
