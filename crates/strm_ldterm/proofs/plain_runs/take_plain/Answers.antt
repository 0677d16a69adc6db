-- The first block that has bytes has fewer of them.
use Rattle.strm_ldterm.proofs.Prelude.{ℕ, ◌≡◌, ◌≤◌, ◌++◌, true, false, get_or, length, take, drop, sym, ap, subst, ◌∙◌, arith, length-take}
use Rattle.strm_ldterm.specs.Prelude.{left_of, Message, cells_of, block_at, in_hand, token, message_in}
use Rattle.std.specs.List.{AllByRecursion}
use Rattle.strm_ldterm.specs.Becoming.{Becomes}
use Rattle.strm_ldterm.proofs.Runs.{take-twice}
use Rattle.strm_ldterm.proofs.Skipped.{becomes-both, front-becomes, front-in, front-is}
use Rattle.strm_ldterm.proofs.plain_runs.take_plain.Goals as goal

pub returns-clause-became : goal.returns-clause-became
returns-clause-became g c =
    let s = g.B.Blocks.value c.args.store.now in
    let t = g.B.Blocks.value c.skip_empty-message.new.store in
    let u = g.B.Blocks.value c.trim_head.new.self in
    let i = token c.args.message in
    let j = token c.skip_empty-message.result in
    let n = c.plain_len-taken.result in
    let b = c.skip_empty-message.ensures.became in
    let run = c.try_extend_from_slice.new.self.items in
    let items : run ≡ take n (block_at 0 (in_hand t j)).bytes = c.in-Ok.ensures.ok ∙ ap (λ l. l ++ take n c.bytes_at-bytes.result.now) c.requires.fresh ∙ ap (take n) c.bytes_at-bytes.ensures.bytes in
    let v = g.B.Blocks.value c.skip_empty.new.store in
    let k = token c.skip_empty.result in
    let left = left_of (drop (length run) (cells_of (message_in s i))) (message_in s i) in
    let taken = becomes-both s t u i j j (message_in s i) left c.audit.ensures b
    (subst (λ (m : Message ℕ). Becomes t u j j (left_of (drop (length run) (cells_of m)) m)) b.shows
    (subst (λ l. Becomes t u j j (left_of (drop (length l) (cells_of (message_in t j))) (message_in t j))) (sym items)
    (front-becomes t u j n c.skip_empty-message.ensures.in_hand b.is c.trim_head.ensures))) in
    subst (Becomes s v i k) taken.shows (becomes-both s u v i j k left (message_in u j) c.audit-2.ensures taken c.skip_empty.ensures.became)

pub skip_empty-requires-clause-in_hand : goal.skip_empty-requires-clause-in_hand
skip_empty-requires-clause-in_hand g c =
    front-in (g.B.Blocks.value c.skip_empty-message.new.store) (g.B.Blocks.value c.trim_head.new.self) (token c.skip_empty-message.result) c.plain_len-taken.result
    c.skip_empty-message.ensures.in_hand c.skip_empty-message.ensures.became.is c.trim_head.ensures

pub skip_empty-requires-clause-is : goal.skip_empty-requires-clause-is
skip_empty-requires-clause-is g c =
    (front-becomes (g.B.Blocks.value c.skip_empty-message.new.store) (g.B.Blocks.value c.trim_head.new.self) (token c.skip_empty-message.result) c.plain_len-taken.result
    c.skip_empty-message.ensures.in_hand c.skip_empty-message.ensures.became.is c.trim_head.ensures).is

pub returns-clause-front : goal.returns-clause-front
returns-clause-front g c =
    let t = g.B.Blocks.value c.skip_empty-message.new.store in
    let u = g.B.Blocks.value c.trim_head.new.self in
    let j = token c.skip_empty-message.result in
    let n = c.plain_len-taken.result in
    let b = c.skip_empty-message.ensures.became in
    let run = c.try_extend_from_slice.new.self.items in
    let items : run ≡ take n (block_at 0 (in_hand t j)).bytes = c.in-Ok.ensures.ok ∙ ap (λ l. l ++ take n c.bytes_at-bytes.result.now) c.requires.fresh ∙ ap (take n) c.bytes_at-bytes.ensures.bytes in
    subst (λ (m : Message ℕ). cells_of m ≡ run ++ drop (length run) (cells_of m)) b.shows
    (subst (λ l. cells_of (message_in t j) ≡ l ++ drop (length l) (cells_of (message_in t j))) (sym items) (front-is t u j n c.skip_empty-message.ensures.in_hand b.is c.trim_head.ensures))

pub returns-clause-plain : goal.returns-clause-plain
returns-clause-plain g c =
    let n = c.plain_len-taken.result in
    let bytes = c.bytes_at-bytes.result.now in
    let within : n ≤ c.min-within.result = omega (arith, c.plain_len-taken.ensures.within, length-take c.min-within.result bytes) in
    let items : c.try_extend_from_slice.new.self.items ≡ take n bytes = c.in-Ok.ensures.ok ∙ ap (λ l. l ++ take n bytes) c.requires.fresh in
    subst (AllByRecursion (λ b. get_or c.args.odd.now b true ≡ false)) (take-twice n c.min-within.result bytes within ∙ sym items) c.plain_len-taken.ensures.plain
