-- What a message of a text is made of stands for it, and takes as many blocks as the image counts for it.
use Rattle.strm_pair.proofs.Prelude.{ℕ, ◌≡◌, ◌<◌, ◌+◌, Bool, true, false, cond, List, [], ◌∷◌, ◌++◌, length, take, drop, refl, sym, ap, subst, ◌∙◌}
use Rattle.strm_pair.proofs.Prelude.{arith, inl, inr, append-nil, ◌||◌, ◌==◌, nat_lt, and_parts, nat_tests, length-take, data-or-control}
use Rattle.strm_pair.specs.Prelude.{MsgKind, is_data_kind, is_control_kind, is_high_priority, chunk_count, Block, StoreValue, message_of, Version}
use Rattle.strm_pair.specs.Prelude.{First, Second, blocks_of, part_blocks, Parts, bytes_in, is_ioctl_kind}
use Rattle.std.proofs.Common.{not, Option, None, Some}
use Rattle.std.proofs.lemmas.Bool.{eqb-true}
use Rattle.std.proofs.lemmas.List.{take-append-drop, length-drop}
use Rattle.strm_types.specs.declared.kinds.MsgKind.TheVariants as kinds
use Rattle.strm_image.specs.Loads.{begun}
use Rattle.strm_image.specs.Messages as texts
use Rattle.strm_image.specs.Messages.{bands_in, message_with, parts_fit}
use Rattle.strm_image.proofs.LoadRows.{ioctl_blocks, part_blocks_added}
use Rattle.strm_pair.specs.Runs.{IsRun, IsPart, Joins, Makes, Runs, if_some, run_blocks, runs_of}
use Rattle.strm_queue.proofs.OneMade.{chunk-one}
use Rattle.strm_pair.proofs.MadeRuns.{chain-joined, control-joined, data-joined-is, plain-joined, with_parts}

ioctl-data : (k : MsgKind) → is_ioctl_kind k ≡ true → is_data_kind k ≡ false
unfolding is_data_kind
ioctl-data kinds.Ioctl is = refl
ioctl-data kinds.Iocack is = refl
ioctl-data kinds.Iocnak is = refl
ioctl-data _ is = absurd cc

control-data : (k : MsgKind) → is_control_kind k ≡ true → is_data_kind k ≡ true
unfolding is_data_kind is_control_kind
control-data kinds.Proto is = refl
control-data kinds.Pcproto is = refl
control-data _ is = absurd cc

if-some-bytes : (bytes : List ℕ) → bytes_in (if_some bytes) ≡ bytes
if-some-bytes [] = refl
if-some-bytes (b ∷ bytes) = refl

if-some-blocks : (bytes : List ℕ) → part_blocks (if_some bytes) ≡ begun (length bytes)
if-some-blocks [] = refl
if-some-blocks (b ∷ bytes) = omega arith

count-one : (bytes : List ℕ) → part_blocks (Some bytes) ≡ chunk_count (length bytes)
unfolding chunk_count
count-one bytes = refl

few-bands : (v : Version) (band : ℕ) → nat_lt band (bands_in v) ≡ true → band < 256
few-bands First band is = grind (arith, nat_tests)
few-bands Second band is = grind (arith, nat_tests)

high-band : (high : Bool) (band : ℕ) → (not high || (band == 0)) ≡ true → high ≡ true → band ≡ 0
high-band true band fits is = eqb-true _ _ fits
high-band false band fits is = absurd cc

module _ (v : Version) (k : MsgKind) (band : ℕ) (body : Option (List ℕ)) where
  -- an ioctl: its header, and its payload behind it
  module _ (control : Option (List ℕ)) (fits : parts_fit v (k, (band, (control, body))) ≡ true) (is : is_ioctl_kind k ≡ true) where
    abbrev whole : Parts
    whole = (k, (band, (control, body)))

    two : runs_of whole ≡ (take 16 (bytes_in body), if_some (drop 16 (bytes_in body)))
    two = rw is refl

    pub ioctl-shown : (f r : List Block) → IsRun k band (runs_of whole).0 f → IsPart (runs_of whole).1 r → message_of (f ++ r) ≡ texts.message_of whole
    ioctl-shown f r run part =
        plain-joined f r (ioctl-data k is) run part
        ∙ ap (λ x. with_parts k band None None (x.0 ++ bytes_in x.1)) two
        ∙ ap (λ xs. with_parts k band None None xs) (ap (λ xs. take 16 (bytes_in body) ++ xs) (if-some-bytes (drop 16 (bytes_in body))) ∙ take-append-drop 16 (bytes_in body))
        ∙ sym (ap (λ c. message_with c whole) (ioctl-data k is))

    pub ioctl-counted : run_blocks (runs_of whole) ≡ blocks_of (texts.message_of whole)
    ioctl-counted =
        ap run_blocks two
        ∙ (let long = length-take 16 (bytes_in body) in
        let one : chunk_count (length (take 16 (bytes_in body))) ≡ 1 = chunk-one (length (take 16 (bytes_in body))) (omega (arith, long)) in
        ap (λ n. n + part_blocks (if_some (drop 16 (bytes_in body)))) one ∙ ap (λ n. 1 + n) (if-some-blocks (drop 16 (bytes_in body)) ∙ ap begun (length-drop 16 (bytes_in body))))
        ∙ ioctl_blocks v whole fits is

  -- a control part, and a data part behind it
  module _ (control : List ℕ) (fits : parts_fit v (k, (band, (Some control, body))) ≡ true) (not_ioctl : is_ioctl_kind k ≡ false) (is : is_control_kind k ≡ true) where
    abbrev parted : Parts
    parted = (k, (band, (Some control, body)))

    both : runs_of parted ≡ (control, body)
    both = rw (not_ioctl, is) refl

    pub control-shown : (f r : List Block) → IsRun k band (runs_of parted).0 f → IsPart (runs_of parted).1 r → message_of (f ++ r) ≡ texts.message_of parted
    control-shown f r run part =
        control-joined f r is run part
        ∙ ap (λ x. with_parts k band (Some x.0) x.1 []) both
        ∙ sym (ap (λ c. message_with c parted) (control-data k is))

    pub control-counted : run_blocks (runs_of parted) ≡ blocks_of (texts.message_of parted)
    control-counted = ap run_blocks both ∙ ap (λ n. n + part_blocks body) (sym (count-one control)) ∙ part_blocks_added v parted fits not_ioctl

module _ (v : Version) (k : MsgKind) (band : ℕ) (bytes : List ℕ) (fits : parts_fit v (k, (band, (None, Some bytes))) ≡ true) (not_ioctl : is_ioctl_kind k ≡ false) (not_control : is_control_kind k ≡ false) where
  -- all bytes of any other kind
  abbrev alone : Parts
  alone = (k, (band, (None, Some bytes)))

  one : runs_of alone ≡ (bytes, None)
  one = rw (not_ioctl, not_control) refl

  pub alone-shown : (f r : List Block) → IsRun k band (runs_of alone).0 f → IsPart (runs_of alone).1 r → message_of (f ++ r) ≡ texts.message_of alone
  alone-shown f r run part =
      let run' : IsRun k band bytes f = subst (λ (x : Runs). IsRun k band x.0 f) one run in
      let part' : IsPart None r = subst (λ (x : Runs). IsPart x.1 r) one part in
      by-cells (is_data_kind k) refl run' part'
    where
      by-cells : (cells : Bool) → is_data_kind k ≡ cells → IsRun k band bytes f → IsPart None r → message_of (f ++ r) ≡ texts.message_of alone
      by-cells true is run part =
          elim (data-or-control k is) [
            | inl data_kind ↦
                (let here : IsRun kinds.Data band bytes f = subst (λ l. IsRun l band bytes f) data_kind run in
                data-joined-is f r here part ∙ ap (λ l. with_parts l band None (Some bytes) []) (sym data_kind) ∙ sym (ap (λ c. message_with c alone) is))
            | inr control ↦ absurd (let no = not_control in cc)
          ]
      by-cells false is run part = plain-joined f r is run part ∙ ap (λ xs. with_parts k band None None xs) (append-nil bytes) ∙ sym (ap (λ c. message_with c alone) is)

  pub alone-counted : run_blocks (runs_of alone) ≡ blocks_of (texts.message_of alone)
  alone-counted = ap run_blocks one ∙ omega (arith, count-one bytes) ∙ part_blocks_added v alone fits not_ioctl

-- ---- any message of a text

never : false ≡ true → ⊥
never e = cc

record Shown (x : Parts) : Type 0 where
  shown : (f r : List Block) → IsRun x.0 x.1.0 (runs_of x).0 f → IsPart (runs_of x).1 r → message_of (f ++ r) ≡ texts.message_of x
  counted : run_blocks (runs_of x) ≡ blocks_of (texts.message_of x)

shown-by : (v : Version) (k : MsgKind) (band : ℕ) (control body : Option (List ℕ)) (ioctl parted : Bool) → is_ioctl_kind k ≡ ioctl → is_control_kind k ≡ parted → parts_fit v (k, (band, (control, body))) ≡ true → Shown (k, (band, (control, body)))
shown-by v k band control body true _ i c fits = record { shown = ioctl-shown v k band body control fits i; counted = ioctl-counted v k band body control fits i }
shown-by v k band (Some control) body false true i c fits = record { shown = control-shown v k band body control fits i c; counted = control-counted v k band body control fits i c }
shown-by v k band None body false true i c fits = absurd (never (ap (λ b. cond b false true) (sym c) ∙ (and_parts _ _ (and_parts _ _ fits).1).0))
shown-by v k band (Some control) body false false i c fits = absurd (never (ap (λ b. cond b true false) (sym c) ∙ (and_parts _ _ (and_parts _ _ fits).1).0))
shown-by v k band None None false false i c fits = absurd (never (ap (λ b. b || false) (sym c) ∙ (and_parts _ _ (and_parts _ _ (and_parts _ _ fits).1).1).0))
shown-by v k band None (Some bytes) false false i c fits = record { shown = alone-shown v k band bytes fits i c; counted = alone-counted v k band bytes fits i c }

pub runs-counted : (v : Version) (x : Parts) → parts_fit v x ≡ true → run_blocks (runs_of x) ≡ blocks_of (texts.message_of x)
runs-counted v (k, (band, (control, body))) fits = (shown-by v k band control body _ _ refl refl fits).counted

pub makes-joined : {old new : StoreValue} {i : ℕ} (v : Version) (x : Parts) → parts_fit v x ≡ true → Joins old new i x.0 x.1.0 (runs_of x) → Makes old new i (blocks_of (texts.message_of x)) (texts.message_of x)
makes-joined {old} {new} {i} v (k, (band, (control, body))) fits j =
    let s = shown-by v k band control body _ _ refl refl fits in
    let bands = and_parts _ _ (and_parts _ _ fits).0 in
    record {
      chain = j.front ++ j.behind;
      one = chain-joined j.front j.behind j.run j.part (high-band (is_high_priority k) band bands.1) (few-bands v band bands.0);
      is = s.shown j.front j.behind j.run j.part;
      fresh = j.fresh;
      spent = record { mblks = omega (arith, j.spent.mblks, s.counted); dblks = omega (arith, j.spent.dblks, s.counted) };
      after = j.after;
    }
