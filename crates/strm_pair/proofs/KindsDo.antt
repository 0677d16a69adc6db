-- What a module of one kind did, one of any kind did: of each kind it stands for the same, fits the same, and keeps the same.
use Rattle.strm_pair.proofs.Prelude.{ℕ, ◌≡◌, Bool, true, false, List, refl, sym, ap, subst, ◌∙◌, Option, None}
use Rattle.strm_pair.specs.Prelude.{Fates, Acted, Parcel, Serving, stood, Module, OfLdterm, OfOwn, OfPtem, OfPckt, Standing, StoreValue, Acts}
use Rattle.strm_pair.specs.Prelude.{Served, Puts, Handles, Hands, HasRoom, parcels_in, sent_of, times_sent, later_cost, Fits, keeps_of, owns}
use Rattle.strm_pair.specs.Prelude.{queues_in, standing, standing_in, ptem_in, pckt_in, QueuePair}
use Rattle.std.proofs.lemmas.Bool.{OnTrue_at, OnTrue_from}
use Rattle.strm_types.specs.Owns.{Own}
use Rattle.strm_types.specs.Service.{done_by, served_by}
use Rattle.strm_types.specs.Standings as plain
use Rattle.strm_types.specs.Standings.{of_part}
use Rattle.strm_laws.specs.Stacked.{of_kind}
use Rattle.strm_frame.specs.Does.{Serves}
use Rattle.strm_ldterm.specs.Stands as stands
use Rattle.strm_pty.specs.declared.pckt.Pckt.{Pckt}
use Rattle.strm_pty.specs.declared.ptem.Ptem.{Ptem}
use Rattle.strm_own.specs.Stands.{HasQueues}
use Rattle.strm_pair.specs.declared.modules.AnyModule.{AnyModule}
use Rattle.strm_pair.specs.declared.modules.AnyModule.TheVariants as kinds
use Rattle.strm_pair.specs.AnyModules.{IsKindHeld, kind_in, kind_keeps}

-- what a call leaves for one more is the same where one is made
later-same : (again : Bool) (m n : ℕ) (sent : List (Parcel ℕ)) → (again ≡ true → m ≡ n) → later_cost again m sent ≡ later_cost again n sent
later-same true m n sent same = ap (λ k. later_cost true k sent) (same refl)
later-same false m n sent same = refl

module _ {M P : Type 0} (wrap : M → AnyModule) (made : P → Module ℕ) (in_itself : StoreValue → M → P) (IsHeld : StoreValue → M → Option QueuePair → Type 0) (keeps : M → ℕ → ℕ) where
  pub record IsKind : Type 0 where
    pub shows : (s : StoreValue) (x : M) → kind_in s (wrap x) ≡ made (in_itself s x)
    pub fits : (s : StoreValue) (x : M) (queues : Option QueuePair) → IsHeld s x queues → IsKindHeld s (wrap x) queues
    pub back : (s : StoreValue) (x : M) (queues : Option QueuePair) → IsKindHeld s (wrap x) queues → IsHeld s x queues
    pub keeps_same : (x : M) → kind_keeps (wrap x) ≡ keeps x

  module _ (kind : IsKind) where
    -- where it stands, it is what it is there by itself
    kind-stands : (s : StoreValue) (x : M) (q : Option QueuePair) → standing_in kind_in s (standing (wrap x) q) ≡ of_kind made (standing_in in_itself s (standing x q))
    kind-stands s x q = ap (λ (p : Module ℕ). stood p (queues_in s q)) (kind.shows s x)

    -- it fits where one of any kind does
    pub kind-fits : (s : StoreValue) (any : AnyModule) (x : M) (q : Option QueuePair) → any ≡ wrap x → Fits IsKindHeld s (standing any q) → Fits IsHeld s (standing x q)
    kind-fits s any x q is held = record { queues = held.queues; itself = kind.back s x q (subst (λ m. IsKindHeld s m q) is held.itself) }

    -- its put
    pub kind-puts : (s t : StoreValue) (x y : M) (q r : Option QueuePair) (holds : Bool) (message most : ℕ) (acts : Acts) (f f' : Fates)
        (is : Acted ℕ (plain.Standing P ℕ))
        → Puts (standing_in in_itself) (Fits IsHeld) owns (keeps_of keeps) s t (standing x q) (standing y r) holds message most acts f f' is
        → Puts (standing_in kind_in) (Fits IsKindHeld) owns (keeps_of kind_keeps) s t (standing (wrap x) q) (standing (wrap y) r) holds message most acts f f'
        (done_by (of_kind made) is)
    kind-puts s t x y q r holds message most acts f f' is e =
        let sent = λ (i : ℕ). times_sent i (sent_of acts.sent) in
        record {
          state = kind-stands t y r ∙ ap (of_kind made) e.state;
          notes = e.notes;
          sent = e.sent;
          told = e.told;
          held = record { queues = e.held.queues; itself = kind.fits t y r e.held.itself };
          own = e.own;
          chains = e.chains;
          hands =
              subst (λ (k : ℕ → ℕ). Hands s t message k (kind_keeps (wrap y)) sent) (sym (kind.keeps_same x))
              (subst (λ (k : ℕ → ℕ). Hands s t message (keeps x) k sent) (sym (kind.keeps_same y)) e.hands);
          spends = e.spends;
          blocks = e.blocks;
          pool = e.pool;
        }

    module _ (cost : P → ℕ) (any_cost : Module ℕ → ℕ) where
      module _ (MayStop : ℕ → plain.Standing P ℕ → Type 0) (MayEnd : ℕ → Standing ℕ → Type 0) (ends : (n : ℕ) (p : plain.Standing P ℕ) → MayStop n p → MayEnd n (of_kind made p)) where
        -- and a call of its service procedure
        pub kind-serves : (s t : StoreValue) (x y : M) (q r : Option QueuePair) (served : Served) (f f' : Fates) (is : Serving ℕ (plain.Standing P ℕ))
            → (is.again ≡ true → (p : P) → any_cost (made p) ≡ cost p)
            → Serves (standing_in in_itself) (Fits IsHeld) owns (keeps_of keeps) (of_part cost) MayStop s t (standing x q) (standing y r) served f f' is
            → Serves (standing_in kind_in) (Fits IsKindHeld) owns (keeps_of kind_keeps) (of_part any_cost) MayEnd s t (standing (wrap x) q) (standing (wrap y) r) served f f' (served_by (of_kind made) is)
        kind-serves s t x y q r served f f' is costs e =
            let sent = λ (i : ℕ). times_sent i (sent_of served.acts.sent) in
            let next = λ (on : served.again ≡ true). ap any_cost (kind.shows t y) ∙ costs (sym e.again ∙ on) (in_itself t y) in
            record {
              state = kind-stands t y r ∙ ap (of_kind made) e.state;
              notes = e.notes;
              sent = e.sent;
              told = e.told;
              bytes = e.bytes;
              again = e.again;
              stopped = e.stopped;
              stops =
                  OnTrue_from served.stopped _
                  (λ stops. subst (MayEnd served.bytes) (sym (kind-stands s x q)) (ends served.bytes (standing_in in_itself s (standing x q)) (OnTrue_at stops e.stops)));
              some = e.some;
              made = e.made;
              held = record { queues = e.held.queues; itself = kind.fits t y r e.held.itself };
              own = e.own;
              chains = e.chains;
              hands =
                  subst (λ (k : ℕ → ℕ). Handles s t (λ _. 0) k (kind_keeps (wrap y)) sent) (sym (kind.keeps_same x))
                  (subst (λ (k : ℕ → ℕ). Handles s t (λ _. 0) (keeps x) k sent) (sym (kind.keeps_same y)) e.hands);
              room = subst (HasRoom t) (sym (later-same served.again _ _ (parcels_in t (sent_of served.acts.sent)) next)) e.room;
              pool = e.pool;
            }

-- the kinds
pub ldterm-kind : IsKind kinds.Ldterm OfLdterm stands.own_in stands.HasInHand stands.keeps_itself
ldterm-kind = record { shows = λ s x. refl; fits = λ s x queues held. held; back = λ s x queues held. held; keeps_same = λ x. refl }

pub ptem-kind : IsKind kinds.Ptem OfPtem (λ (s : StoreValue) (x : Ptem). ptem_in x) (λ s x queues. queues ≡ None) (λ x i. 0)
ptem-kind = record { shows = λ s x. refl; fits = λ s x queues held. held; back = λ s x queues held. held; keeps_same = λ x. refl }

pub pckt-kind : IsKind kinds.Pckt OfPckt (λ (s : StoreValue) (x : Pckt). pckt_in) (λ s x queues. queues ≡ None) (λ x i. 0)
pckt-kind = record { shows = λ s x. refl; fits = λ s x queues held. held; back = λ s x queues held. held; keeps_same = λ x. refl }

pub own-kind : IsKind kinds.Own OfOwn (λ (s : StoreValue) (x : Own). x) (λ s x queues. HasQueues x queues) (λ x i. 0)
own-kind = record { shows = λ s x. refl; fits = λ s x queues held. held; back = λ s x queues held. held; keeps_same = λ x. refl }
