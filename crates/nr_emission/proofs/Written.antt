-- A message's bytes, part by part.
use Rattle.std.proofs.Common.{◌≡◌, [], ◌++◌, refl, ap, sym, ◌∙◌, append_assoc}
use Rattle.std.specs.Prelude.{codes}
use Rattle.std.specs.Fmt.{digits}
use Rattle.std.proofs.lemmas.List.{append-nil}
use Rattle.nr_model.specs.Bytes.{Bytes}
use Rattle.nr_model.specs.Replies.{Bulk, reply_text}
use Rattle.nr_model.specs.Sequential.Messages.{message, pattern_message}

message-text : (channel text : Bytes) → codes "*3\r\n$7\r\nmessage\r\n" ++ (reply_text (Bulk channel) ++ (reply_text (Bulk text) ++ []))
    ≡ reply_text (message channel text)
unfolding digits
message-text channel text = refl

pattern_message-text : (channel text p : Bytes)
    → codes "*4\r\n$8\r\npmessage\r\n" ++ (reply_text (Bulk p) ++ (reply_text (Bulk channel) ++ (reply_text (Bulk text) ++ [])))
    ≡ reply_text (pattern_message channel text p)
unfolding digits
pattern_message-text channel text p = refl

pub message_written : (channel text old head one two : Bytes) → head ≡ old ++ codes "*3\r\n$7\r\nmessage\r\n" → one ≡ head ++ reply_text (Bulk channel)
    → two ≡ one ++ reply_text (Bulk text) → two ≡ old ++ reply_text (message channel text)
message_written channel text old head one two first second third =
    let h = codes "*3\r\n$7\r\nmessage\r\n" in
    let a = reply_text (Bulk channel) in
    let b = reply_text (Bulk text) in
    third ∙ ap (λ xs. xs ++ b) (second ∙ ap (λ xs. xs ++ a) first) ∙ append_assoc (old ++ h) a b ∙ append_assoc old h (a ++ b)
    ∙ ap (λ xs. old ++ (h ++ (a ++ xs))) (sym (append-nil b)) ∙ ap (λ xs. old ++ xs) (message-text channel text)

pub pattern_message_written : (channel text p old head one two three : Bytes) → head ≡ old ++ codes "*4\r\n$8\r\npmessage\r\n" → one
    ≡ head ++ reply_text (Bulk p)
    → two ≡ one ++ reply_text (Bulk channel) → three ≡ two ++ reply_text (Bulk text) → three ≡ old ++ reply_text (pattern_message channel text p)
pattern_message_written channel text p old head one two three first second third last =
    let h = codes "*4\r\n$8\r\npmessage\r\n" in
    let a = reply_text (Bulk p) in
    let b = reply_text (Bulk channel) in
    let d = reply_text (Bulk text) in
    last ∙ ap (λ xs. xs ++ d) (third ∙ ap (λ xs. xs ++ b) (second ∙ ap (λ xs. xs ++ a) first))
    ∙ append_assoc ((old ++ h) ++ a) b d ∙ append_assoc (old ++ h) a (b ++ d) ∙ append_assoc old h (a ++ (b ++ d))
    ∙ ap (λ xs. old ++ (h ++ (a ++ (b ++ xs)))) (sym (append-nil d)) ∙ ap (λ xs. old ++ xs) (pattern_message-text channel text p)
