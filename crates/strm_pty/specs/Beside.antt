-- The module ptem beside a store: what it stands for, and what a put at it did (ptem(7M)).
use Rattle.std.specs.Prelude.{ℕ, ◌≡◌, ◌<◌, ◌≤◌, true}
use Rattle.strm_pty.specs.Prelude.{MODULES, Way, Up, Down, Spot, is_asked, Acted, Message, own_at, ptem_does, StoreValue, IsInHand, in_hand, IsChain}
use Rattle.strm_pty.specs.Prelude.{Acts, Hands, HasRoom, Spends, message_in, sent_of, times_sent, parcels_in, AreChains}
use Rattle.strm_types.specs.Ptems as plain
use Rattle.strm_frame.specs.Hands.{SamePool}
use Rattle.strm_pty.specs.declared.ptem.Ptem.{Ptem}

-- what it stands for, whatever the store holds
abbrev pub ptem_in : Ptem → plain.Ptem
ptem_in x = record { termios = x.termios; window = x.window }

-- A put did what a definition says: `message` has gone, and what is sent on has come in hand. No list of the store changed. No more blocks of each
-- kind were taken than `most`.
pub record Answers (old new : StoreValue) (x' : Ptem) (message most : ℕ) (acts : Acts) (is : Acted ℕ plain.Ptem) : Type 0 where
  pub state : ptem_in x' ≡ is.state
  pub notes : acts.notes.items ≡ is.notes
  pub sent : parcels_in new (sent_of acts.sent) ≡ is.sent
  pub lists : new.lists ≡ old.lists
  pub chains : AreChains new (sent_of acts.sent)
  pub hands : Hands old new message (λ _. 0) (λ _. 0) (λ i. times_sent i (sent_of acts.sent))
  pub spends : Spends old new most 0
  pub pool : SamePool old new

-- that, of a message that is put here, as a definition says of it and of what was set before
abbrev pub Puts : StoreValue → StoreValue → Ptem → Ptem → ℕ → Spot → Acts → (Message ℕ → plain.Ptem → Acted ℕ plain.Ptem) → Type 0
Puts old new x x' message here acts is = let m = message_in old message in Answers old new x' message (own_at ptem_does here m) acts (is m (ptem_in x))

-- how many blocks of each kind the answers to an M_IOCTL take at most, by the way that it goes
abbrev pub answer_blocks : Way → ℕ
answer_blocks Down = 3
answer_blocks Up = 2

-- a message that may be put at a module's place
pub record MayPass (store : StoreValue) (message : ℕ) (here : Spot) : Type 0 where
  pub held : IsInHand store message
  pub chain : IsChain (in_hand store message)
  pub inside : 0 < here.at
  pub small : here.at ≤ MODULES

-- an M_IOCTL that may be answered there, on this way: the blocks for its answers are free
pub record MayAnswer (store : StoreValue) (message : ℕ) (here : Spot) (way : Way) : Type 0 where
  pub passes : MayPass store message here
  pub asked : is_asked (message_in store message) ≡ true
  pub goes : here.way ≡ way
  pub room : HasRoom store (answer_blocks way)
