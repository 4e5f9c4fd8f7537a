-- What a text says, from what its parser and its resolver answer.
use Rattle.std.proofs.Common.{◌≡◌, ◌⊎◌, ℕ, List, refl, sym, ap, ◌∙◌, subst, inl, inr}
use Rattle.std.specs.Prelude.{Result, Ok, Err, IsOkUnless, Some, None}
use Rattle.spf_text.specs.declared.scanner.ScanError.{ScanError}
use Rattle.spf_text.specs.declared.scanner.ScanError.TheVariants as scan
use Rattle.spf_ast.specs.Syntax.{Program}
use Rattle.spf_ast.specs.RawSyntax.{RawProgram}
use Rattle.spf_parse_grammar.specs.Texts.{IsProgramOf, IsUnexpectedAt, IsTooDeepAt}
use Rattle.spf_parse.specs.declared.program.ParseError.{ParseError}
use Rattle.spf_parse.specs.declared.program.ParseError.TheVariants as error
use Rattle.spf_parse.specs.Refusals.{IsNoTokenText}
use Rattle.spf_types_names.specs.declared.fault.TypeFault.{TypeFault}
use Rattle.spf_types_names.specs.declared.fault.TypeError.{TypeError}
use Rattle.spf_types_names.specs.declared.fault.TypeError.TheVariants as type
use Rattle.spf_types.specs.Contract.{IsResolved, IsRefused}
use Rattle.spf_cli_answers.specs.Reading.{TextRefusal, text_too_long, bad_byte, number_too_large, unexpected, too_deep, on_line, TextVerdict, Says, Refuses, IsTextRefused, IsTextVerdict}
use Rattle.spf_cli_answers.specs.Unread.{refusal_of, seen_refusal, IsRefusalOf, IsUnread, IsAtByte, HasNoByteFault}
use Rattle.spf_cli_answers.specs.declared.reading.Unread.{Unread}
use Rattle.spf_cli_answers.specs.declared.reading.Unread.TheVariants.{Refused, NoMemory}
use Rattle.spf_cli_words.specs.Only.{IsOnly}

-- a text that is refused at a byte is refused so by the parser, unless memory ran out
abbrev pub IsExact : {A : Type 0} → List ℕ → Result A ParseError → Type 0
IsExact text r =
    (refusal : TextRefusal) → IsTextRefused text refusal → IsAtByte refusal → (e : ParseError) × (refusal_of e ≡ Some refusal) × ((r ≡ Err e) ⊎ (r ≡ Err error.OutOfMemory))

-- what the parser refuses is refused so
abbrev pub IsRight : {A : Type 0} → List ℕ → Result A ParseError → Type 0
IsRight text r = (e : ParseError) (mine : TextRefusal) → r ≡ Err e → refusal_of e ≡ Some mine → IsTextRefused text mine

pub exact_of : {A : Type 0} (text : List ℕ) (r : Result A ParseError)
    → ((e : ScanError) → IsNoTokenText text e → (r ≡ Err (error.Scan e)) ⊎ (r ≡ Err error.OutOfMemory))
    → ((at : ℕ) → IsUnexpectedAt text at → (r ≡ Err (error.Unexpected at)) ⊎ (r ≡ Err error.OutOfMemory))
    → ((at : ℕ) → IsTooDeepAt text at → (r ≡ Err (error.TooDeep at)) ⊎ (r ≡ Err error.OutOfMemory))
    → IsExact text r
exact_of text r scans un deep (text_too_long at) h b = (error.Scan (scan.TooLong at), refl, scans (scan.TooLong at) h)
exact_of text r scans un deep (bad_byte at) h b = (error.Scan (scan.BadByte at), refl, scans (scan.BadByte at) h)
exact_of text r scans un deep (number_too_large at) h b = (error.Scan (scan.NumberTooLarge at), refl, scans (scan.NumberTooLarge at) h)
exact_of text r scans un deep (unexpected at) h b = (error.Unexpected at, refl, un at h)
exact_of text r scans un deep (too_deep at) h b = (error.TooDeep at, refl, deep at h)
exact_of text r scans un deep (on_line fault line) h b = absurd b

pub right_of : {A : Type 0} (text : List ℕ) (r : Result A ParseError)
    → ((e : ScanError) → r ≡ Err (error.Scan e) → IsNoTokenText text e)
    → ((at : ℕ) → r ≡ Err (error.Unexpected at) → IsUnexpectedAt text at)
    → ((at : ℕ) → r ≡ Err (error.TooDeep at) → IsTooDeepAt text at)
    → IsRight text r
right_of text r scans un deep (error.Scan (scan.TooLong at)) mine e m = let same : text_too_long at ≡ mine = cc in subst (IsTextRefused text) same (scans (scan.TooLong at) e)
right_of text r scans un deep (error.Scan (scan.BadByte at)) mine e m = let same : bad_byte at ≡ mine = cc in subst (IsTextRefused text) same (scans (scan.BadByte at) e)
right_of text r scans un deep (error.Scan (scan.NumberTooLarge at)) mine e m = let same : number_too_large at ≡ mine = cc in subst (IsTextRefused text) same (scans (scan.NumberTooLarge at) e)
right_of text r scans un deep (error.Scan scan.OutOfMemory) mine e m = absurd (cc)
right_of text r scans un deep (error.Unexpected at) mine e m = let same : unexpected at ≡ mine = cc in subst (IsTextRefused text) same (un at e)
right_of text r scans un deep (error.TooDeep at) mine e m = let same : too_deep at ≡ mine = cc in subst (IsTextRefused text) same (deep at e)
right_of text r scans un deep error.OutOfMemory mine e m = absurd (cc)

-- an answer that is Ok but for one error has no other
only_error : {A E : Type 0} (r : Result A E) (e f : E) → IsOkUnless r f → r ≡ Err e → e ≡ f
only_error (Ok x) e f ok is = absurd (cc)
only_error (Err y) e f ok is = cc

-- an answer has one error
err_same : {A : Type 0} (r : Result A ParseError) (e f : ParseError) → r ≡ Err e → r ≡ Err f → e ≡ f
err_same r e f is other = cc

-- running out of memory is no refusal
short_is : {A : Type 0} (r : Result A ParseError) (e : ParseError) → r ≡ Err e → r ≡ Err error.OutOfMemory → refusal_of e ≡ None
short_is r e is other = ap refusal_of (err_same r e error.OutOfMemory is other)

-- where the parser gives a program, the text isn't refused at a byte
pub faultless_of : {A : Type 0} (text : List ℕ) (r : Result A ParseError) (x : A) → r ≡ Ok x → IsExact text r → HasNoByteFault text
faultless_of text r x is exact refusal h b =
    let found = exact refusal h b in
    elim found.2 [ inl e ↦ absurd (cc) | inr e ↦ absurd (cc) ]

-- where the parser refuses the text, it is refused in this way, and in no other
pub refused_by_parser : {A : Type 0} (text : List ℕ) (r : Result A ParseError) (e : ParseError) (mine : TextRefusal)
    → IsExact text r → IsRight text r
    → ((q : RawProgram) → IsProgramOf text q → IsOkUnless r error.OutOfMemory)
    → r ≡ Err e → refusal_of e ≡ Some mine → IsOnly (IsTextVerdict text) (Refuses mine)
refused_by_parser {A} text r e mine exact right accepted is m = record {
  is = right e mine is m;
  only = λ v h. other v h;
}
  where
    no_program : {B : Type 0} → (q : RawProgram) → IsProgramOf text q → B
    no_program q h = let same : refusal_of e ≡ None = ap refusal_of (only_error r e error.OutOfMemory (accepted q h) is) in absurd (cc)

    same_refusal : (refusal : TextRefusal) → IsTextRefused text refusal → IsAtByte refusal → refusal ≡ mine
    same_refusal refusal h b =
        let found = exact refusal h b in
        elim found.2 [
          | inl x ↦ (let f : found.0 ≡ e = err_same r found.0 e x is in let g : Some refusal ≡ Some mine = sym found.1 ∙ ap refusal_of f ∙ m in cc)
          | inr short ↦ (let same : refusal_of e ≡ None = short_is r e is short in absurd (cc))
        ]

    other : (v : TextVerdict) → IsTextVerdict text v → v ≡ Refuses mine
    other (Says p) h = no_program h.0 h.1
    other (Refuses (text_too_long at)) h = ap Refuses (same_refusal (text_too_long at) h tt)
    other (Refuses (bad_byte at)) h = ap Refuses (same_refusal (bad_byte at) h tt)
    other (Refuses (number_too_large at)) h = ap Refuses (same_refusal (number_too_large at) h tt)
    other (Refuses (unexpected at)) h = ap Refuses (same_refusal (unexpected at) h tt)
    other (Refuses (too_deep at)) h = ap Refuses (same_refusal (too_deep at) h tt)
    other (Refuses (on_line fault line)) h = no_program h.0 h.1

-- the program that a raw program stands for is what the text says, and nothing else is
pub said_by_program : {A : Type 0} (text : List ℕ) (raw : RawProgram) (r : Result A TypeError) (x : A) (p : Program)
    → IsOnly (IsProgramOf text) raw → HasNoByteFault text → r ≡ Ok x → IsResolved raw p
    → ((q : Program) → IsResolved raw q → q ≡ p)
    → ((fault : TypeFault) (line : ℕ) → IsRefused raw fault line → (r ≡ Err (type.Refused fault line)) ⊎ (r ≡ Err type.OutOfMemory))
    → IsOnly (IsTextVerdict text) (Says p)
said_by_program text raw r x p one none is resolved only refused = record {
  is = (raw, one.is, resolved);
  only = λ v h. other v h;
}
  where
    other : (v : TextVerdict) → IsTextVerdict text v → v ≡ Says p
    other (Says q) h = ap Says (only q (subst (λ w. IsResolved w q) (one.only h.0 h.1) h.2))
    other (Refuses (text_too_long at)) h = absurd (none (text_too_long at) h tt)
    other (Refuses (bad_byte at)) h = absurd (none (bad_byte at) h tt)
    other (Refuses (number_too_large at)) h = absurd (none (number_too_large at) h tt)
    other (Refuses (unexpected at)) h = absurd (none (unexpected at) h tt)
    other (Refuses (too_deep at)) h = absurd (none (too_deep at) h tt)
    other (Refuses (on_line fault line)) h =
        elim (refused fault line (subst (λ w. IsRefused w fault line) (one.only h.0 h.1) h.2)) [ inl e ↦ absurd (cc) | inr e ↦ absurd (cc) ]

-- a fault of names, kinds or sizes is what the text is refused for, and nothing else is
pub refused_by_resolver : {A : Type 0} (text : List ℕ) (raw : RawProgram) (r : Result A TypeError) (fault : TypeFault) (line : ℕ)
    → IsOnly (IsProgramOf text) raw → HasNoByteFault text → r ≡ Err (type.Refused fault line) → IsRefused raw fault line
    → ((q : Program) → IsResolved raw q → IsOkUnless r type.OutOfMemory)
    → ((fault : TypeFault) (line : ℕ) → IsRefused raw fault line → (r ≡ Err (type.Refused fault line)) ⊎ (r ≡ Err type.OutOfMemory))
    → IsOnly (IsTextVerdict text) (Refuses (on_line fault line))
refused_by_resolver text raw r fault line one none is right accepted refused = record {
  is = (raw, one.is, right);
  only = λ v h. other v h;
}
  where
    other : (v : TextVerdict) → IsTextVerdict text v → v ≡ Refuses (on_line fault line)
    other (Says q) h =
        let same = only_error r (type.Refused fault line) type.OutOfMemory (accepted q (subst (λ w. IsResolved w q) (one.only h.0 h.1) h.2)) is in
        absurd (cc)
    other (Refuses (text_too_long at)) h = absurd (none (text_too_long at) h tt)
    other (Refuses (bad_byte at)) h = absurd (none (bad_byte at) h tt)
    other (Refuses (number_too_large at)) h = absurd (none (number_too_large at) h tt)
    other (Refuses (unexpected at)) h = absurd (none (unexpected at) h tt)
    other (Refuses (too_deep at)) h = absurd (none (too_deep at) h tt)
    other (Refuses (on_line fault' line')) h =
        elim (refused fault' line' (subst (λ w. IsRefused w fault' line') (one.only h.0 h.1) h.2)) [ inl e ↦ cc | inr e ↦ absurd (cc) ]

-- so is what the error means
pub unread_by : {A : Type 0} (text : List ℕ) (r : Result A ParseError) (e : ParseError) (meant : Unread)
    → IsExact text r → IsRight text r
    → ((q : RawProgram) → IsProgramOf text q → IsOkUnless r error.OutOfMemory)
    → r ≡ Err e → IsRefusalOf e meant → IsUnread text meant
unread_by text r e (Refused refusal) exact right accepted is m = refused_by_parser text r e (seen_refusal refusal) exact right accepted is m
unread_by text r e NoMemory exact right accepted is m = tt
