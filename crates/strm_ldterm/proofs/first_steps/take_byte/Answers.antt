-- The first block has the next byte, or none is left.
use Rattle.strm_ldterm.proofs.Prelude.{ℕ, ◌≡◌, ◌∷◌, drop, length, sym, ap, subst, ◌∙◌, slice_index_or}
use Rattle.strm_ldterm.specs.Prelude.{left_of, Message, cells_of, block_at, in_hand, token, message_in}
use Rattle.strm_ldterm.specs.Becoming.{Becomes}
use Rattle.strm_ldterm.proofs.Skipped.{left-none, becomes-both, byte-becomes, byte-is, front-becomes, front-in}
use Rattle.strm_ldterm.proofs.first_steps.take_byte.Goals as goal

pub returns-then-block_len-eq0-clause-became : goal.returns-then-block_len-eq0-clause-became
returns-then-block_len-eq0-clause-became g c =
    let s = g.B.Blocks.value c.args.store.now in
    let i = token c.args.message in
    let none = c.skip_empty-message.ensures.shown (sym c.block_len.ensures.count ∙ c.if-block_len-eq0.true) in
    subst (λ (m : Message ℕ). Becomes s (g.B.Blocks.value c.skip_empty-message.new.store) i (token c.skip_empty-message.result) m) (sym (left-none s i c.requires.is none)) c.skip_empty-message.ensures.became

pub returns-clause-became : goal.returns-clause-became
returns-clause-became g c =
    let s = g.B.Blocks.value c.args.store.now in
    let t = g.B.Blocks.value c.skip_empty-message.new.store in
    let u = g.B.Blocks.value c.trim_head.new.self in
    let i = token c.args.message in
    let j = token c.skip_empty-message.result in
    let b = c.skip_empty-message.ensures.became in
    let some : length (block_at 0 (in_hand t j)).bytes ≡ 0 → ⊥ = λ e. c.if-block_len-eq0.false (c.block_len.ensures.count ∙ e) in
    let v = g.B.Blocks.value c.skip_empty.new.store in
    let k = token c.skip_empty.result in
    let left = left_of (drop 1 (cells_of (message_in s i))) (message_in s i) in
    let taken = becomes-both s t u i j j (message_in s i) left c.audit.ensures b
    (subst (λ (m : Message ℕ). Becomes t u j j (left_of (drop 1 (cells_of m)) m)) b.shows
    (byte-becomes t u j c.skip_empty-message.ensures.in_hand b.is some c.trim_head.ensures)) in
    subst (Becomes s v i k) taken.shows (becomes-both s u v i j k left (message_in u j) c.audit-2.ensures taken c.skip_empty.ensures.became)

pub skip_empty-requires-clause-in_hand : goal.skip_empty-requires-clause-in_hand
skip_empty-requires-clause-in_hand g c =
    front-in (g.B.Blocks.value c.skip_empty-message.new.store) (g.B.Blocks.value c.trim_head.new.self) (token c.skip_empty-message.result) 1
    c.skip_empty-message.ensures.in_hand c.skip_empty-message.ensures.became.is c.trim_head.ensures

pub skip_empty-requires-clause-is : goal.skip_empty-requires-clause-is
skip_empty-requires-clause-is g c =
    (front-becomes (g.B.Blocks.value c.skip_empty-message.new.store) (g.B.Blocks.value c.trim_head.new.self) (token c.skip_empty-message.result) 1
    c.skip_empty-message.ensures.in_hand c.skip_empty-message.ensures.became.is c.trim_head.ensures).is

pub returns-clause-byte : goal.returns-clause-byte
returns-clause-byte g c =
    let t = g.B.Blocks.value c.skip_empty-message.new.store in
    let u = g.B.Blocks.value c.trim_head.new.self in
    let j = token c.skip_empty-message.result in
    let b = c.skip_empty-message.ensures.became in
    let some : length (block_at 0 (in_hand t j)).bytes ≡ 0 → ⊥ = λ e. c.if-block_len-eq0.false (c.block_len.ensures.count ∙ e) in
    let byte = slice_index_or c.bytes_at.result.now 0 0 in
    subst (λ (m : Message ℕ). cells_of m ≡ byte ∷ drop 1 (cells_of m)) b.shows
    (byte-is t u j c.skip_empty-message.ensures.in_hand b.is some c.trim_head.ensures ∙ ap (λ l. slice_index_or l 0 0 ∷ drop 1 (cells_of (message_in t j))) (sym c.bytes_at.ensures.bytes))
