-- The texts of messages are exact.
use Rattle.strm_image.proofs.Prelude.{◌≡◌, ℕ, Bool, true, false, not, ◌||◌, cond, List, [], Option, Some, None, refl, ap, sym, is_some, and_parts}
use Rattle.strm_image.proofs.Prelude.{eqb-true, nil_from_length}
use Rattle.strm_image.specs.Prelude.{MsgKind, Data, Proto, Sig, Ctl, Ioctl, Setopts, Iocack, Iocnak, Pcproto, Pcsig, Read, Flush, Stop, Start, Hangup}
use Rattle.strm_image.specs.Prelude.{Error, HIGH_PRIORITY_RANK, is_data_kind, is_control_kind, Message}
use Rattle.strm_image.specs.declared.versions.QueueKind.{QueueKind}
use Rattle.strm_image.specs.declared.versions.Version.{Version}
use Rattle.strm_image.specs.Codes.{flag}
use Rattle.strm_image.specs.Format.{IsExact, bytes_of, u32, only, counted, ◌then◌}
use Rattle.strm_image.specs.Messages.{any, part_fits, part_of, part_parts, part, Parts, parts_fit, message_with, message_of, parts_with, message_parts, stands_with, is_message, message, may_follow, message_behind, next_rank, messages}
use Rattle.strm_image.proofs.CodeRows.{flag_exact, kind_exact}
use Rattle.strm_image.proofs.Formats.{u32_exact, byte_exact, bytes_exact, bytes_long, only_exact, counted_exact, chain_exact, chain_long, then_exact, made_exact, IsMade}

part_made : IsMade any part_of part_parts (only part_fits (flag then counted u32 bytes_of))
part_made = record {
  back = λ x fits. back x (and_parts _ _ fits).1;
  whole = λ y shape. elim y as (λ y. part_of (part_parts y) ≡ y) [ None ↦ refl | Some bytes ↦ refl ];
}
  where
    back : (x : Bool × List ℕ) → part_fits x ≡ true → (part_parts (part_of x) ≡ x) × (true ≡ true)
    back (true, bytes) fits = (refl, refl)
    back (false, bytes) fits = (rw (nil_from_length bytes (eqb-true _ _ fits)) refl, refl)

pub part_exact : IsExact part
unfolding part
part_exact = made_exact any part_of part_parts _ (only_exact _ (then_exact _ _ flag_exact (counted_exact _ _ u32_exact bytes_exact bytes_long)) part_fits) part_made

-- what has no cells has no control part
pub no_control : (k : MsgKind) → is_data_kind k ≡ false → is_control_kind k ≡ false
unfolding is_data_kind is_control_kind
no_control Data e = refl
no_control Proto e = absurd cc
no_control Sig e = refl
no_control Ctl e = refl
no_control Ioctl e = refl
no_control Setopts e = refl
no_control Iocack e = refl
no_control Iocnak e = refl
no_control Pcproto e = absurd cc
no_control Pcsig e = refl
no_control Read e = refl
no_control Flush e = refl
no_control Stop e = refl
no_control Start e = refl
no_control Hangup e = refl
no_control Error e = refl

back_with : (cells has : Bool) (x : Parts) → (cells ≡ false → has ≡ false) → (cond has (is_some x.1.1.0) (not (is_some x.1.1.0)) ≡ true) → (has || is_some x.1.1.1 ≡ true)
    → (parts_with cells (message_with cells x) ≡ x) × (stands_with cells (message_with cells x) ≡ true)
back_with true has (k, (band, (control, body))) none c b = (refl, refl)
back_with false true (k, (band, (control, body))) none c b = absurd (let e = none refl in cc)
back_with false false (k, (band, (Some bytes, body))) none c b = absurd cc
back_with false false (k, (band, (None, None))) none c b = absurd cc
back_with false false (k, (band, (None, Some bytes))) none c b = (refl, refl)

whole_with : (cells : Bool) (m : Message ℕ) → stands_with cells m ≡ true → message_with cells (parts_with cells m) ≡ m
whole_with true m e = let none : m.plain ≡ [] = nil_from_length m.plain (eqb-true _ _ e) in ap (λ bytes. record m { plain = bytes }) (sym none)
whole_with false m e = without m.control m.body (and_parts _ _ e)
  where
    without : (control body : Option (List ℕ)) → (not (is_some control) ≡ true) × (not (is_some body) ≡ true) → record m { control = None; body = None } ≡ record m { control = control; body = body }
    without None None e = refl
    without (Some bytes) body e = absurd (let f = e.0 in cc)
    without None (Some bytes) e = absurd (let f = e.1 in cc)

-- a message of parts has these parts, and its bytes stand where its kind has them
pub parts_back : (v : Version) (x : Parts) → parts_fit v x ≡ true → (message_parts (message_of x) ≡ x) × (is_message (message_of x) ≡ true)
parts_back v x fits =
    let p = and_parts _ _ (and_parts _ _ fits).1 in
    let q = and_parts _ _ p.1 in
    back_with (is_data_kind x.0) (is_control_kind x.0) x (no_control x.0) p.0 q.0

pub message_exact : (v : Version) → IsExact (message v)
unfolding message
message_exact v =
    made_exact is_message message_of message_parts _ (only_exact _ (then_exact _ _ kind_exact (then_exact _ _ byte_exact (then_exact _ _ part_exact part_exact))) (parts_fit v))
    (record { back = λ x fits. parts_back v x (and_parts _ _ fits).1; whole = λ m shape. whole_with (is_data_kind m.kind) m shape })

pub behind_exact : (v : Version) (at : QueueKind) (rank : ℕ) → IsExact (message_behind v at rank)
unfolding message_behind
behind_exact v at rank = only_exact (message v) (message_exact v) (may_follow at rank)

pub messages_exact : (v : Version) (at : QueueKind) → IsExact (messages v at)
unfolding messages
messages_exact v at = counted_exact _ _ u32_exact (chain_exact next_rank (message_behind v at) (behind_exact v at) HIGH_PRIORITY_RANK) (chain_long next_rank (message_behind v at) HIGH_PRIORITY_RANK)
