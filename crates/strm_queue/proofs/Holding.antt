-- What a list of messages holds once one more is put on it, or its first is taken.
use Rattle.std.proofs.Common.{◌≡◌, Bool, true, List, ◌∷◌, refl}
use Rattle.strm_types.specs.declared.kinds.MsgKind.{MsgKind}
use Rattle.strm_types.specs.declared.kinds.MsgKind.TheVariants.{Data}
use Rattle.strm_types.specs.Flush.{is_data_kind}
use Rattle.strm_types.proofs.Ranked.{Ordered-put, Ordered-put_back}
use Rattle.strm_blocks.specs.Blocks.{Block, block_at, rank_of, put, put_back}
use Rattle.strm_msg.specs.Messages.{IsChain, AreMessages}
use Rattle.strm_queue.proofs.Counted.{all-put, all-put_back}
use Rattle.strm_queue.specs.Stored.{Holds}

-- a message's kind passes a test
abbrev pub Passes : (MsgKind → Bool) → List Block → Type 0
Passes test chain = test (block_at 0 chain).kind ≡ true

pub data-readable : is_data_kind Data ≡ true
unfolding is_data_kind
data-readable = refl

module _ (chain : List Block) (q : List (List Block)) where
  pub put-messages : IsChain chain → AreMessages q → AreMessages (put chain q)
  put-messages one m = record { chains = all-put IsChain rank_of chain q one m.chains; ordered = Ordered-put rank_of chain q m.ordered }

  pub put_back-messages : IsChain chain → AreMessages q → AreMessages (put_back chain q)
  put_back-messages one m = record { chains = all-put_back IsChain rank_of chain q one m.chains; ordered = Ordered-put_back rank_of chain q m.ordered }

  pub first-chain : AreMessages (chain ∷ q) → IsChain chain
  first-chain m = m.chains.0

  pub rest-messages : AreMessages (chain ∷ q) → AreMessages q
  rest-messages m = record { chains = m.chains.1; ordered = m.ordered.1 }

module _ (test : MsgKind → Bool) (chain : List Block) (q : List (List Block)) where
  pub put-holds : Passes test chain → Holds test q → Holds test (put chain q)
  put-holds is h = record { each = all-put (Passes test) rank_of chain q is h.each }

  pub put_back-holds : Passes test chain → Holds test q → Holds test (put_back chain q)
  put_back-holds is h = record { each = all-put_back (Passes test) rank_of chain q is h.each }

  pub first-holds : Holds test (chain ∷ q) → Passes test chain
  first-holds h = h.each.0

  pub rest-holds : Holds test (chain ∷ q) → Holds test q
  rest-holds h = record { each = h.each.1 }
