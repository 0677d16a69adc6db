-- Stored calls and answers read back as they were.
use Rattle.strm_laws.proofs.Prelude.{ℕ, ◌≡◌, ◌+◌, List, ◌++◌, length, drop, refl, ap, ◌∙◌, arith, length-append, Option, None, Some, option_map}
use Rattle.strm_laws.proofs.Prelude.{append_assoc}
use Rattle.strm_laws.specs.Prelude.{Answer, Called, Caller, Event, Request, Reply, payload_of, content_of, part_len, part_in, event_len, answer_len}
use Rattle.strm_laws.specs.Prelude.{request_in, reply_in, entry_in, part}
use Rattle.std.proofs.Math.Seq.{take-append_seam, drop-append_seam}
use Rattle.strm_types.specs.declared.answers.Answer.TheVariants as told
use Rattle.strm_types.specs.declared.events.Event.TheVariants as shapes
use Rattle.strm_types.specs.Events.{map_event, map_answer}

-- what is stored of a part, a call and an answer beside their bytes
abbrev part_shape : Option (List ℕ) → Option ℕ
part_shape o = option_map (λ bytes. length bytes) o

abbrev shape_of : Request → Event ℕ
shape_of asked = map_event (λ bytes. length bytes) asked

abbrev told_of : Reply → Answer ℕ
told_of reply = map_answer (λ bytes. length bytes) reply

part-size : (o : Option (List ℕ)) → part_len (part_shape o) ≡ length (part o)
part-size None = refl
part-size (Some bytes) = refl

part-back : (o : Option (List ℕ)) (more : List ℕ) → part_in (part_shape o) (part o ++ more) ≡ o
part-back None more = refl
part-back (Some bytes) more = ap Some (take-append_seam bytes more)

-- of two parts, the first and the second
first-back : (control body : Option (List ℕ)) (more : List ℕ) → part_in (part_shape control) ((part control ++ part body) ++ more) ≡ control
first-back control body more = ap (λ bytes. part_in (part_shape control) bytes) (append_assoc (part control) (part body) more) ∙ part-back control (part body ++ more)

second-back : (control body : Option (List ℕ)) (more : List ℕ) → part_in (part_shape body) (drop (part_len (part_shape control)) ((part control ++ part body) ++ more)) ≡ body
second-back control body more =
    rw (part-size control, append_assoc (part control) (part body) more, drop-append_seam (part control) (part body ++ more)) (part-back body more)

both-size : (control body : Option (List ℕ)) → part_len (part_shape control) + part_len (part_shape body) ≡ length (part control ++ part body)
both-size control body = omega (arith, part-size control, part-size body, length-append (part control) (part body))

pub request-back : (asked : Request) (more : List ℕ) → request_in (shape_of asked) (payload_of asked ++ more) ≡ asked
request-back (shapes.Write bytes) more = ap shapes.Write (take-append_seam bytes more)
request-back (shapes.Put prio control body) more =
    rw (first-back control body more, second-back control body more) refl
request-back (shapes.Ioctl command body) more = ap (λ xs. shapes.Ioctl command xs) (take-append_seam body more)
request-back _ more = refl

pub request-size : (asked : Request) → event_len (shape_of asked) ≡ length (payload_of asked)
request-size (shapes.Put prio control body) = both-size control body
request-size _ = refl

pub reply-back : (reply : Reply) (more : List ℕ) → reply_in (told_of reply) (content_of reply ++ more) ≡ reply
reply-back (told.Bytes bytes) more = ap told.Bytes (take-append_seam bytes more)
reply-back (told.Msg prio control body more_control more_data) more =
    rw (first-back control body more, second-back control body more) refl
reply-back (told.Signals bytes) more = ap told.Signals (take-append_seam bytes more)
reply-back _ more = refl

pub reply-size : (reply : Reply) → answer_len (told_of reply) ≡ length (content_of reply)
reply-size (told.Msg prio control body more_control more_data) = both-size control body
reply-size _ = refl

-- an entry, of an answer whose bytes stand behind those of its call
pub entry-back : (caller : Caller) (asked : Request) (answer : Answer ℕ) (content : List ℕ) → entry_in (Called caller (shape_of asked) answer) (payload_of asked ++ content) ≡ Called caller asked (reply_in answer content)
entry-back caller asked answer content =
    rw (request-back asked content, request-size asked, drop-append_seam (payload_of asked) content) refl
