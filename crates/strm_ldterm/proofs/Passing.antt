-- An M_FLUSH that passes, and puts by their kind.
use Rattle.strm_ldterm.proofs.Prelude.{ℕ, ◌≡◌, Bool, true, false, cond, List, [], ◌∷◌, ◌++◌, refl, sym, ap, ◌∙◌, append-nil, ◌&&◌, not}
use Rattle.strm_ldterm.specs.Prelude.{FlushAsked, MsgKind, Up, Down, Fates, Note, Spot, Acted, tallied, onward, is_data_kind, is_flush, ldterm_puts}
use Rattle.strm_ldterm.specs.Prelude.{passes_on_way, waits_on, sends, both, queue_flushed, line_flushed, read_flushed, write_flushed, takes_band_0}
use Rattle.strm_ldterm.specs.Prelude.{flush_passes, queued_at, Message, Flushed, StoreValue, IsStore, message_of, Acts, CanPut, message_in}
use Rattle.strm_types.specs.declared.kinds.MsgKind.TheVariants as kinds
use Rattle.strm_types.specs.Ldterms as ldterms
use Rattle.strm_types.specs.Service.{line_gone}
use Rattle.strm_ldterm.specs.Stands.{ldterm_in, keeps, Paired}
use Rattle.strm_ldterm.specs.Does.{Does, Flushes}
use Rattle.strm_ldterm.proofs.Steps.{still-chain, alters-does}

-- flushes send nothing
pub read-sends : (here : Spot) (asked : FlushAsked) (p : ldterms.Discipline ℕ) → (read_flushed here asked p).sent ≡ []
read-sends here asked p =
    elim asked.for_read as (λ v. (cond v (both (queue_flushed Up here asked.band p) (line_flushed here asked.band)) (sends [] p)).sent ≡ []) [
      | true ↦ line-sends ((queue_flushed Up here asked.band p).state)
      | false ↦ refl
    ]
  where
    line-sends : (p : ldterms.Discipline ℕ) → (line_flushed here asked.band p).sent ≡ []
    line-sends p = at (takes_band_0 asked.band)
      where
        at : (v : Bool) → (cond v (record (sends [] (ldterms.without_line p)) { gone = line_gone here.side Flushed p.line }) (sends [] p)).sent ≡ []
        at true = refl
        at false = refl

write-sends : (here : Spot) (asked : FlushAsked) (p : ldterms.Discipline ℕ) → (write_flushed here asked p).sent ≡ []
write-sends here asked p =
    elim asked.for_write as (λ v. (cond v (queue_flushed Down here asked.band (record p { echoing = p.echoing && not (takes_band_0 asked.band) })) (sends [] p)).sent ≡ []) [ true ↦ refl | false ↦ refl ]

pub flushes-send : (here : Spot) (asked : FlushAsked) (p : ldterms.Discipline ℕ) → (both (read_flushed here asked p) (write_flushed here asked)).sent ≡ []
flushes-send here asked p =
    ap (λ l. l ++ (write_flushed here asked (read_flushed here asked p).state).sent) (read-sends here asked p) ∙ write-sends here asked (read_flushed here asked p).state

pub flush-plain : (k : MsgKind) → is_flush k ≡ true → is_data_kind k ≡ false
unfolding is_data_kind
flush-plain kinds.Flush is = refl
flush-plain _ is = absurd (cc)

module _ (s u : StoreValue) (x z : Paired) (i : ℕ) (st : IsStore s) (can : CanPut s i (keeps x)) where
  -- the message goes on behind what was done
  pub passes-after : (here : Spot) (notes : List Note) (acts : Acts) (f f2 : Fates) (a : Acted ℕ (ldterms.Discipline ℕ)) → Flushes s u x z notes f f2 a → a.sent ≡ []
      → Does u u z z i acts f2 f2 (record (sends (onward here.way here (message_in u i) ∷ []) (ldterm_in u z)) { notes = notes })
      → Does s u x z i acts f f2 (both a (sends (onward here.way here (message_in s i) ∷ [])))
  passes-after here notes acts f f2 a done none does =
      let same = still-chain s u x z i st can done.alters in
      let d = alters-does s u x z i st can done.alters u z acts f2 f2 _ _ does refl in
      record {
        state = done.state;
        notes = does.notes ∙ done.noted ∙ sym (append-nil a.notes);
        sent =
            does.sent ∙ ap (λ chain. onward here.way here (message_of chain) ∷ []) same
            ∙ ap (λ l. l ++ onward here.way here (message_in s i) ∷ []) (sym none);
        told = done.told ∙ ap (λ g. tallied g f) (sym (append-nil a.gone));
        held = d.held;
        own = d.own;
        chains = d.chains;
        hands = d.hands;
        frees = d.frees;
        pool = d.pool;
      }

-- a put by what becomes of its message
module _ (here : Spot) (m : Message ℕ) (p : ldterms.Discipline ℕ) where
  abbrev puts_by : Bool → Bool → Acted ℕ (ldterms.Discipline ℕ)
  puts_by waits flush = cond waits (queued_at here.way m p) (cond flush (flush_passes here m p) (passes_on_way here.way here m p))

  pub puts-wait : waits_on here.way m ≡ true → ldterm_puts here m p ≡ queued_at here.way m p
  puts-wait is = ap (λ v. puts_by v (is_flush m.kind)) is

  pub puts-flush : waits_on here.way m ≡ false → is_flush m.kind ≡ true → ldterm_puts here m p ≡ flush_passes here m p
  puts-flush is flush = ap (λ v. puts_by v (is_flush m.kind)) is ∙ ap (λ v. puts_by false v) flush

  pub puts-pass : waits_on here.way m ≡ false → is_flush m.kind ≡ false → ldterm_puts here m p ≡ passes_on_way here.way here m p
  puts-pass is flush = ap (λ v. puts_by v (is_flush m.kind)) is ∙ ap (λ v. puts_by false v) flush
