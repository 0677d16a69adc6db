-- The numbers that a queue keeps of chains are those of the messages that the chains stand for.
use Rattle.std.proofs.Common.{ℕ, ◌≡◌, ◌<◌, true, false, Bool, cond, List, [], ◌∷◌, map, refl, sym, ap, ◌∙◌, arith}
use Rattle.std.specs.Prelude.{if◌then◌else◌, ◌==◌, ◌&&◌, ◌||◌, not, nat_lt}
use Rattle.std.specs.List.{AllByRecursion}
use Rattle.std.proofs.lemmas.List.Sums.{sum_by-cons}
use Rattle.strm_types.specs.declared.kinds.MsgKind.{MsgKind}
use Rattle.strm_types.specs.declared.kinds.MsgKind.TheVariants as kinds
use Rattle.strm_types.specs.Message.{band_of, size_of, is_high_priority, is_held}
use Rattle.strm_types.specs.Queue as plain
use Rattle.strm_blocks.specs.Blocks.{Block, block_at}
use Rattle.strm_msg.specs.Messages.{message_of, IsChain}
use Rattle.strm_msg.proofs.Chains.{kind-is, band-is, size-shown}
use Rattle.strm_queue.specs.Kept as kept

-- the band in which a message counts
pub band-same : (chain : List Block) → kept.band_of chain ≡ band_of (message_of chain)
unfolding band_of
band-same chain =
    ap (λ k. cond (is_high_priority k) 0 (block_at 0 chain).band) (sym (kind-is chain)) ∙ ap (λ b. cond (is_high_priority (message_of chain).kind) 0 b) (sym (band-is chain))

-- whether a put of it enables a queue
pub enables-same : (chain : List Block) (q : plain.Queue ℕ) → kept.enables chain q.want_read q.no_enable ≡ plain.put_enables (message_of chain) q
enables-same chain q =
    ap (λ k. is_high_priority k || (not q.no_enable && (nat_lt 0 (kept.band_of chain) || q.want_read))) (sym (kind-is chain))
    ∙ ap (λ b. is_high_priority (message_of chain).kind || (not q.no_enable && (nat_lt 0 b || q.want_read))) (band-same chain)

-- how many bytes count in a band
pub count-same : (band : ℕ) (q : List (List Block)) → AllByRecursion IsChain q → kept.count_of band q ≡ plain.count_of band (map message_of q)
count-same band [] all = refl
count-same band (chain ∷ q) all =
    let here : (if kept.band_of chain == band then kept.bytes_of chain else 0) ≡ (if band_of (message_of chain) == band then size_of (message_of chain) else 0) =
    ap (λ b. cond (b == band) (kept.bytes_of chain) 0) (band-same chain) ∙ ap (λ n. cond (band_of (message_of chain) == band) n 0) (sym (size-shown chain all.0)) in
    omega (arith, here, count-same band q all.1, sum_by-cons (λ c. if kept.band_of c == band then kept.bytes_of c else 0) chain q, sum_by-cons (λ m. if band_of m == band then size_of m else 0) (message_of chain) (map message_of q))

-- what flow control holds back is of no high priority
held-low : (k : MsgKind) → is_held k ≡ true → is_high_priority k ≡ false
unfolding is_held is_high_priority
held-low kinds.Data is = refl
held-low kinds.Proto is = refl
held-low _ is = absurd (cc)

pub held-band : (chain : List Block) → is_held (block_at 0 chain).kind ≡ true → band_of (message_of chain) ≡ (block_at 0 chain).band
held-band chain is = sym (band-same chain) ∙ ap (λ v. cond v 0 (block_at 0 chain).band) (held-low (block_at 0 chain).kind is)

-- a message that is stopped is one that flow control holds back
pub stopped-held : (v w : Bool) → true ≡ (v && w) → v ≡ true
stopped-held true w is = refl
stopped-held false w is = absurd (cc)

-- a message counts in a band below 256
chain-low-at : (high : Bool) (band : ℕ) → band < 256 → cond high 0 band < 256
chain-low-at true band low = omega arith
chain-low-at false band low = low

pub chain-low : (chain : List Block) → IsChain chain → kept.band_of chain < 256
chain-low chain one = chain-low-at (is_high_priority (block_at 0 chain).kind) (block_at 0 chain).band one.low
