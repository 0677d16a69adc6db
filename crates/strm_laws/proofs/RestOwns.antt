-- A put at a module of a user's own adds no more moves than its message costs: it makes no M_DATA and no M_IOCTL of another kind, and loses and
-- doubles no cell.
use Rattle.strm_laws.proofs.Prelude.{ℕ, suc, ◌≡◌, ◌≤◌, ◌+◌, ◌-◌, Bool, true, false, cond, List, [], ◌∷◌, length, refl, subst, arith}
use Rattle.strm_laws.proofs.Prelude.{◌&&◌, not, sum_by, Option, None, Some}
use Rattle.std.specs.List.{AllByRecursion}
use Rattle.strm_laws.specs.Prelude.{FlushAsked, MsgKind, Data, Proto, Ioctl, Flush, Sig, Side, Way, Up, Down, Spot, Cells, Parcel}
use Rattle.strm_laws.specs.Prelude.{asked_by, is_bare_flush, is_flush, Message, cells_of, has_parts, weight_of, other, cost_of, emits_at}
use Rattle.strm_laws.specs.Prelude.{At, Shape, Held, Asking, FlushR, FlushW, FlushRW, FlushMixed, Packed, shape_by, shape_of, toward, QueuePair}
use Rattle.strm_laws.specs.Prelude.{stood}
use Rattle.strm_types.specs.Owns.{Own}
use Rattle.strm_types.specs.OwnStands.{own_holds, own_puts, own_queued, pair_flushed}
use Rattle.strm_types.specs.Service.{acts_alone}
use Rattle.strm_types.specs.Tables.{own_does}
use Rattle.strm_laws.specs.Behaviours.{Behaviour, is_only_itself, own_by}
use Rattle.strm_laws.specs.Places.{weight_sent}
use Rattle.strm_laws.specs.Rest.{echoes, moves_above}
use Rattle.strm_laws.specs.StackCosts.{Stands}
use Rattle.strm_laws.proofs.Based.{all-counted}
use Rattle.strm_laws.proofs.NoOwn.{none}
use Rattle.strm_laws.proofs.RestCosts.{above-more, above-wider, at_or_above, at_or_below, below-wider, sinks-more, sinks_by, toll, toll_at}
use Rattle.strm_laws.proofs.RestPuts.{tolls}

-- the kind that costs most of those that messages of a shape may have, where one of this kind has come, and whether it is an M_FLUSH without parts
held_kind : MsgKind → MsgKind
held_kind Data = Data
held_kind _ = Proto

packed_kind : MsgKind → MsgKind
packed_kind Ioctl = Ioctl
packed_kind _ = Sig

kind_most : MsgKind → Shape → MsgKind
kind_most kind Held = held_kind kind
kind_most kind Asking = Ioctl
kind_most kind Packed = packed_kind kind
kind_most kind _ = Sig

flushes : Shape → Bool
flushes FlushR = true
flushes FlushW = true
flushes FlushRW = true
flushes _ = false

module _ (all : Stands) (posts : Side → ℕ) where
  -- what a message costs, by its kind and its bytes
  abbrev toll_by : Way → Side → ℕ → MsgKind → Bool → ℕ → ℕ
  toll_by Up side at kind bare n = moves_above kind (at_or_above (echoes all side) (posts side) at) n
  toll_by Down side at kind bare n =
      cond bare 0 (sinks_by kind (at_or_below (echoes all side) (posts side) at) n + suc (moves_above kind (echoes all (other side)) n))

  same-toll : {C : Type 0} (way : Way) (side : Side) (at : ℕ) (m : Message C)
      → toll_at all posts way side at m ≡ toll_by way side at m.kind (is_bare_flush m) (length (cells_of m))
  same-toll Up side at m = refl
  same-toll Down side at m = refl

  -- it costs less with fewer bytes, and further on
  above-fewer : (kind : MsgKind) (ahead : Bool) (n k : ℕ) → n ≤ k → moves_above kind ahead n ≤ moves_above kind ahead k
  above-fewer Data true n k few = omega (arith, few)
  above-fewer Data false n k few = omega arith
  above-fewer Proto true n k few = omega arith
  above-fewer Proto false n k few = omega arith
  above-fewer kind ahead n k few = omega arith

  sinks-fewer : (kind : MsgKind) (ahead : Bool) (n k : ℕ) → n ≤ k → sinks_by kind ahead n ≤ sinks_by kind ahead k
  sinks-fewer Data true n k few = omega (arith, few)
  sinks-fewer Proto true n k few = omega (arith, few)
  sinks-fewer Ioctl true n k few = omega (arith, few)
  sinks-fewer Data false n k few = omega arith
  sinks-fewer Proto false n k few = omega arith
  sinks-fewer Ioctl false n k few = omega arith
  sinks-fewer kind ahead n k few = omega arith

  fewer : (way : Way) (side : Side) (at : ℕ) (kind : MsgKind) (bare : Bool) (n k : ℕ) → n ≤ k → toll_by way side at kind bare n
      ≤ toll_by way side at kind bare k
  fewer Up side at kind bare n k few = above-fewer kind (at_or_above (echoes all side) (posts side) at) n k few
  fewer Down side at kind true n k few = omega arith
  fewer Down side at kind false n k few =
      omega (arith, sinks-fewer kind (at_or_below (echoes all side) (posts side) at) n k few, above-fewer kind (echoes all (other side)) n k few)

  further : (way : Way) (here : Spot) (kind : MsgKind) (bare : Bool) (n : ℕ)
      → toll_by way here.side (toward way here).at kind bare n ≤ toll_by way here.side here.at kind bare n
  further Up here kind bare n =
      above-more kind n _ _ (above-wider (echoes all here.side) (posts here.side) (here.at - 1) here.at (omega arith))
  further Down here kind true n = omega arith
  further Down here kind false n =
      let less = sinks-more kind n _ _ (below-wider (echoes all here.side) (posts here.side) (here.at + 1) here.at (omega arith)) in
      omega (arith, less)

  -- a kind that waits nowhere and is not answered costs least, and an M_PROTO no more than an M_DATA
  least : (way : Way) (side : Side) (at : ℕ) (kind : MsgKind) (n k : ℕ) → toll_by way side at Sig false n ≤ toll_by way side at kind false k
  least Up side at kind n k = omega arith
  least Down side at kind n k = omega arith

  proto-less : (way : Way) (side : Side) (at n : ℕ) (kind : MsgKind) → toll_by way side at Proto false n
      ≤ toll_by way side at (held_kind kind) false n
  unfolding held_kind
  proto-less way side at n Data = by way
    where
      above : (ahead : Bool) → moves_above Proto ahead n ≤ moves_above Data ahead n
      above true = omega arith
      above false = omega arith

      sinks : (ahead : Bool) → sinks_by Proto ahead n ≤ sinks_by Data ahead n
      sinks true = omega arith
      sinks false = omega arith

      by : (way : Way) → toll_by way side at Proto false n ≤ toll_by way side at Data false n
      by Up = above (at_or_above (echoes all side) (posts side) at)
      by Down = omega (arith, sinks (at_or_below (echoes all side) (posts side) at), above (echoes all (other side)))
  proto-less way side at n kind = omega arith

  module _ (came : MsgKind) (most : ℕ) where
    -- what a message of a shape costs at most
    abbrev most_by : Way → Side → ℕ → Shape → ℕ
    most_by way side at shape = toll_by way side at (kind_most came shape) (flushes shape) most

    abbrev cost : At → ℕ
    cost a = most_by a.to.way a.to.side a.to.at a.shape

    flush-less : (side : Side) (at n : ℕ) (asked : FlushAsked) → toll_by Down side at Flush true n
        ≤ most_by Down side at (cond asked.for_write (cond asked.for_read FlushRW FlushW) FlushR)
    flush-less side at n asked = omega arith

    mixed-less : (side : Side) (at n : ℕ) (asked : FlushAsked) → toll_by Down side at Flush false n
        ≤ most_by Down side at (cond asked.for_write FlushMixed Packed)
    unfolding kind_most flushes
    mixed-less side at n asked = by asked.for_write
      where
        by : (w : Bool) → toll_by Down side at Flush false n ≤ most_by Down side at (cond w FlushMixed Packed)
        by true = omega arith
        by false = omega arith

    -- a message of so many bytes at most, that is an M_DATA or an M_IOCTL only where one has come, costs no more
    held-less : (way : Way) (side : Side) (at n : ℕ) → n ≤ most → Data ≡ came → toll_by way side at Data false n
        ≤ toll_by way side at (held_kind came) false most
    unfolding held_kind
    held-less way side at n few is =
        subst (λ k. toll_by way side at Data false n ≤ toll_by way side at (held_kind k) false most) is (fewer way side at Data false n most few)

    ioctl-less : (way : Way) (side : Side) (at n : ℕ) → n ≤ most → Ioctl ≡ came → toll_by way side at Ioctl false n
        ≤ toll_by way side at (packed_kind came) false most
    unfolding packed_kind
    ioctl-less way side at n few is =
        subst (λ k. toll_by way side at Ioctl false n ≤ toll_by way side at (packed_kind k) false most) is (fewer way side at Ioctl false n most few)

    sent-less : (way : Way) (side : Side) (at n : ℕ) → n ≤ most → (parts : Bool) (kind : MsgKind) (bytes : List ℕ)
        → (is_only_itself kind ≡ true → kind ≡ came)
        → toll_by way side at kind (is_flush kind && not parts) n ≤ most_by way side at (shape_by parts kind bytes)
    unfolding kind_most flushes
    sent-less way side at n few true Data bytes only = held-less way side at n few (only refl)
    sent-less way side at n few false Data bytes only = held-less way side at n few (only refl)
    sent-less way side at n few true Proto bytes only = omega (arith, fewer way side at Proto false n most few, proto-less way side at most came)
    sent-less way side at n few false Proto bytes only = omega (arith, fewer way side at Proto false n most few, proto-less way side at most came)
    sent-less way side at n few true Ioctl bytes only = ioctl-less way side at n few (only refl)
    sent-less way side at n few false Ioctl bytes only = fewer way side at Ioctl false n most few
    sent-less Down side at n few true Flush bytes only = mixed-less side at n (asked_by bytes)
    sent-less Down side at n few false Flush bytes only = flush-less side at n (asked_by bytes)
    sent-less Up side at n few parts kind bytes only = omega arith
    sent-less Down side at n few true kind bytes only = omega arith
    sent-less Down side at n few false kind bytes only = omega arith

    -- what the table says costs no more than one message of the shape that came, a place further
    table-less : (way : Way) (here : Spot) (shape : Shape) → sum_by cost (emits_at here (own_does way shape))
        ≤ cost (record { to = toward way here; shape = shape })
    unfolding kind_most flushes
    table-less Up here shape = omega arith
    table-less Down here Asking = omega arith
    table-less Down here shape = omega arith

    all-less : {C : Type 0} (ps : List (Parcel C)) → AllByRecursion (λ q. is_only_itself q.message.kind ≡ true → q.message.kind ≡ came) ps
        → weight_sent (λ dir c. true) ps ≤ most → tolls all posts ps ≤ cost_of cost ps
    unfolding cost_of weight_of
    all-less [] only few = omega arith
    all-less (q ∷ qs) only few =
        let count = all-counted (cells_of q.message) in
        let n = length (cells_of q.message) in
        let one = sent-less q.to.way q.to.side q.to.at n (omega (arith, few, count)) (has_parts q.message) q.message.kind q.message.plain only.0 in
        omega (arith, one, same-toll q.to.way q.to.side q.to.at q.message, all-less qs only.1 (omega (arith, few)))

  -- and that is what it cost itself
  self-less : (way : Way) (side : Side) (at n : ℕ) (parts : Bool) (kind : MsgKind) (bytes : List ℕ)
      → most_by kind n way side at (shape_by parts kind bytes) ≤ toll_by way side at kind (is_flush kind && not parts) n
  unfolding kind_most flushes held_kind packed_kind
  self-less way side at n true Data bytes = omega arith
  self-less way side at n false Data bytes = omega arith
  self-less way side at n true Proto bytes = omega arith
  self-less way side at n false Proto bytes = omega arith
  self-less way side at n true Ioctl bytes = omega arith
  self-less way side at n false Ioctl bytes = omega arith
  self-less way side at n true Flush bytes = by way (asked_by bytes).for_write
    where
      by : (way : Way) (w : Bool) → most_by Flush n way side at (cond w FlushMixed Packed) ≤ toll_by way side at Flush false n
      by Up true = omega arith
      by Up false = omega arith
      by Down true = omega arith
      by Down false = omega arith
  self-less way side at n false Flush bytes = by way (asked_by bytes).for_write (asked_by bytes).for_read
    where
      by : (way : Way) (w r : Bool) → most_by Flush n way side at (cond w (cond r FlushRW FlushW) FlushR) ≤ toll_by way side at Flush true n
      by Up true true = omega arith
      by Up true false = omega arith
      by Up false r = omega arith
      by Down true true = omega arith
      by Down true false = omega arith
      by Down false r = omega arith
  self-less Up side at n true kind bytes = omega arith
  self-less Up side at n false kind bytes = omega arith
  self-less Down side at n true kind bytes = omega arith
  self-less Down side at n false kind bytes = omega arith

  pub own-few : {C : Type 0} (K : Behaviour) (cells : Cells C) (here : Spot) (m : Message C) (o : Own) → tolls all posts (K.puts cells here m o).sent
      ≤ toll all posts here m
  unfolding weight_of
  own-few K cells here m o =
      let t = K.puts cells here m o in
      let own = K.put cells here m o in
      let most = length (cells_of m) in
      let shape = shape_of m in
      let next = toward here.way here in
      let once = own.once (λ dir c. true) (λ changes dir b c. refl) in
      let few : weight_sent (λ dir c. true) t.sent ≤ most = omega (arith, once, all-counted (cells_of m)) in
      let sent = all-less m.kind most t.sent own.kinds few in
      let within = own.within (cost m.kind most) in
      let table = table-less m.kind most here.way here shape in
      let goes = further here.way here (kind_most m.kind shape) (flushes shape) most in
      let self = self-less here.way here.side here.at most (has_parts m) m.kind m.plain in
      omega (arith, sent, within, table, goes, self, same-toll here.way here.side here.at m, same-next here.way here shape)
    where
      same-next : (way : Way) (here : Spot) (shape : Shape) → cost m.kind (length (cells_of m)) (record { to = toward way here; shape = shape })
          ≡ most_by m.kind (length (cells_of m)) way here.side (toward way here).at shape
      same-next Up here shape = refl
      same-next Down here shape = refl

  -- where one has queues, what waits is not sent on, and an M_FLUSH passes
  pub own-pays : {C : Type 0} (K : Behaviour) (cells : Cells C) (here : Spot) (m : Message C) (o : Own) (queues : Option (QueuePair C))
      → tolls all posts (own_puts (own_by K cells) here m (stood o queues)).sent ≤ toll all posts here m
  own-pays K cells here m o None = own-few K cells here m o
  own-pays K cells here m o (Some pair) = at (is_flush m.kind) (own_holds (own_by K cells) here m o)
    where
      at : (flush holds : Bool) → tolls all posts (cond flush (pair_flushed here m o pair)
          (cond holds (own_queued here.way m o pair) (acts_alone (K.puts cells here m) (stood o (Some pair))))).sent ≤ toll all posts here m
      at true holds = own-few none cells here m o
      at false true = omega arith
      at false false = own-few K cells here m o
