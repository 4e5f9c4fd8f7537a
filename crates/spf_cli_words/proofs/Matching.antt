-- What the getters of `clap` say of the rows.
use Rattle.std.proofs.Common.{◌≡◌, ◌∙◌, refl, sym, ap, Bool, true, false, List, codes, Option, Some, None, if◌then◌else◌}
use Rattle.std.specs.Prelude.{MatchOption, bytes_eq, option_and_then, option_map, unwrap_or}
use Rattle.std.specs.Option.{option_map_or}
use Rattle.std.specs.Str.Parse.{ParsesBool}
use Rattle.std.proofs.lemmas.Slice.Eq.{bytes_eq-Decides}
use Rattle.clap.specs.Words.{Row, Text, first_of}
use Rattle.clap.specs.Matches.{ReadsOne}
use Rattle.spf_cli_words.specs.Command.{IsFileName}
use Rattle.spf_cli_words.specs.Matched.{is_name, name_in, name_of}
use Rattle.spf_cli_words.proofs.Names.{is-name, name-is}

-- what is seen of a result, by cases
pub by_cases : {A B : Type 0} (seen : A → B) (result : Option A) (o : Option B) → option_map seen result ≡ o
    → MatchOption result (o ≡ None) (λ a. o ≡ Some (seen a))
by_cases seen None o e = sym e
by_cases seen (Some a) o e = sym e

-- an argument's word that is a file's name, and one that isn't
pub name-given : (argument : Text) (rows : List Row) (word : Text) → first_of argument rows ≡ Some word → IsFileName word → name_of argument rows ≡ Some word
name-given argument rows word e h = ap (option_and_then name_in) e ∙ ap (λ (t : Bool). if t then Some word else None) (is-name word h)

pub name-refused : (argument : Text) (rows : List Row) (word : Text) → first_of argument rows ≡ Some word → (IsFileName word → ⊥) → name_of argument rows ≡ None
name-refused argument rows word e never = ap (option_and_then name_in) e ∙ by_test (is_name word) refl
  where
    chosen : Bool → Option Text
    chosen t = if t then Some word else None

    by_test : (t : Bool) → is_name word ≡ t → chosen (is_name word) ≡ None
    by_test true is = absurd (never (name-is word is))
    by_test false is = ap chosen is

-- a flag's text, as it is read
pub flag-is : (E : Type 0) (text : Option Text) (r : Option Bool) → (text ≡ None → r ≡ None) → ((t : Text) → text ≡ Some t → ReadsOne (ParsesBool {E = E}) t r)
    → unwrap_or r false ≡ option_map_or (λ t. bytes_eq t (codes "true")) text false
flag-is E None r none value = ap (λ (o : Option Bool). unwrap_or o false) (none refl)
flag-is E (Some t) (Some true) none value = sym ((bytes_eq-Decides t (codes "true")).1 (value t refl))
flag-is E (Some t) (Some false) none value = ap (λ w. bytes_eq w (codes "true")) (sym (value t refl))
flag-is E (Some t) None none value = by_test (bytes_eq t (codes "true")) refl
  where
    by_test : (b : Bool) → bytes_eq t (codes "true") ≡ b → false ≡ bytes_eq t (codes "true")
    by_test true e = absurd ((value t refl).1.0 ((bytes_eq-Decides t (codes "true")).0 e))
    by_test false e = sym e
