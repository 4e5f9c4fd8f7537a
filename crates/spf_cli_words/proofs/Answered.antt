-- What words ask for, by the command that their matches give.
use Rattle.std.proofs.lemmas.Slice.Eq.{bytes_eq-Decides, slice_eq-Decides}
use Rattle.std.specs.Prelude.{bytes_eq, Option, None, option_and_then, option_map, ◌^◌, ◌-◌}
use Rattle.std.specs.Cmp.Lexicographic.{pointwise}
use Rattle.std.proofs.Common.{◌≡◌, ◌⊎◌, inl, inr, ◌≤◌, subst, ℕ, Bool, true, false, List, [], ◌∷◌, codes, Some, refl, sym, ap, ◌∙◌, ◌&&◌, true≢false, if◌then◌else◌, map, Decides, String, string_bytes, string_eq, arith}
use Rattle.clap.specs.Words.{App, HasMatchesOf, Row, Text, app_of, first_of, is_simple, subcommand_of, subcommand_rows_of, takes}
use Rattle.clap.specs.declared.builder.command.Command.{Command as ClapCommand}
use Rattle.clap.specs.declared.parser.matches.ArgMatches.{ArgMatches}
use Rattle.spf_cli_words.specs.Command.{DecodeOptions, words_of, IsUpTo, HasDecodeNumbers, HasNumbers, IsFileName, HasFileNames, Command, Run, Check, Explain, Print, Unpack, Unhuff, Lex, Show, Build, Batch, Sim, Replay, Demo, Asks}
use Rattle.spf_apps_formats.specs.declared.generate.Kind.{Kind}
use Rattle.spf_cli_words.specs.Only.{IsOnly}
use Rattle.spf_cli_words.specs.Line.{IsLine, line}
use Rattle.spf_cli_words.specs.Matched.{is_name, name_in, number_in, kind_in, name_of, number_of, given_number, option_of, options_with, options_of, decode_options_with, block_with, decode_options_of, run_with, run_on, run_from, run_of, program_with, program_of, decoding_with, decoding_on, decoding_of, lex_from, lex_of, demo_with, demo_sized, demo_seeded, demo_from, demo_of, named, command_in, file_of, batch_with, batch_on, batch_from, batch_of, sim_with, sim_on, sim_from, sim_of, replay_with, replay_on, replay_from, replay_of}
use Rattle.spf_cli_words.proofs.Numbers.{number-is}
use Rattle.spf_cli_words.proofs.Names.{name-is}
use Rattle.spf_cli_words.proofs.Canonical.{is-read}

-- ---- steps

-- an answer through two steps
record Came {A B : Type 0} (f : A → Option B) (o : Option A) (b : B) : Type 0 where
  from : A
  was : o ≡ Some from
  gave : f from ≡ Some b

came : {A B : Type 0} (f : A → Option B) (o : Option A) (b : B) → option_and_then f o ≡ Some b → Came f o b
came f None b e = absurd (cc)
came f (Some a) b e = record { from = a; was = refl; gave = e }

some-same : {A : Type 0} (a b : A) → Some a ≡ Some b → a ≡ b
some-same a b e = cc

none-some : {A : Type 0} (a : A) → None ≡ Some a → ⊥
none-some a e = cc

-- ---- a command that matches give has names and numbers as they have to be

abbrev Fits : Command → Type 0
Fits command = HasFileNames command × HasNumbers command

name-fits : (argument : Text) (rows : List Row) (name : Text) → name_of argument rows ≡ Some name → IsFileName name
name-fits argument rows name e = let t = came name_in (first_of argument rows) name e in by_test t.from (is_name t.from) refl t.gave
  where
    by_test : (word : Text) (b : Bool) → is_name word ≡ b → (if b then Some word else None) ≡ Some name → IsFileName name
    by_test word true is e = subst IsFileName (some-same word name e) (name-is word is)
    by_test word false is e = absurd (cc)

number-fits : (argument : Text) (least most : ℕ) (rows : List Row) (n : ℕ) → number_of argument least most rows ≡ Some n → (least ≤ n) × (n ≤ most)
number-fits argument least most rows n e =
    let t = came (number_in least most) (first_of argument rows) n e in
    let is = number-is least most t.from n t.gave in
    (is.least_is, is.most_is)

option-fits : (most : ℕ) (word : Option Text) (number : Option ℕ) → given_number most word ≡ Some number → IsUpTo most number
option-fits most None number e = subst (IsUpTo most) (some-same None number e) tt
option-fits most (Some word) number e = go (number_in 1 most word) refl e
  where
    go : (found : Option ℕ) → number_in 1 most word ≡ found → option_map (λ n. Some n) found ≡ Some number → IsUpTo most number
    go None is e = absurd (cc)
    go (Some n) is e = let of = number-is 1 most word n is in subst (IsUpTo most) (some-same (Some n) number e) (of.least_is, of.most_is)

run-fits : (rows : List Row) (d : Command) → run_of rows ≡ Some d → Fits d
run-fits rows d e =
    let p = came (run_from rows) (name_of (codes "program") rows) d e in
    let i = came (run_on rows p.from) (name_of (codes "input") rows) d p.gave in
    let o = came (run_with p.from i.from) (options_of rows) d i.gave in
    let w = came (options_with rows) (option_of (codes "workers") 64 rows) o.from o.was in
    let workers = option-fits 64 (first_of (codes "workers") rows) w.from w.was in
    subst Fits (some-same (Run p.from i.from o.from) d o.gave) (
      (name-fits (codes "program") rows p.from p.was, name-fits (codes "input") rows i.from i.was),
      subst (λ x. IsUpTo 64 x.workers) (some-same _ o.from w.gave) workers,
    )

-- a command on one program
program-fits : (command : Text → Command) → ((program : Text) → IsFileName program → Fits (command program))
    → (rows : List Row) (d : Command) → program_of command rows ≡ Some d → Fits d
program-fits command fits rows d e =
    let p = came (program_with command) (name_of (codes "program") rows) d e in
    subst Fits (some-same (command p.from) d p.gave) (fits p.from (name-fits (codes "program") rows p.from p.was))

-- a command on one file
file-fits : (argument : Text) (command : Text → Command) → ((file : Text) → IsFileName file → Fits (command file))
    → (rows : List Row) (d : Command) → file_of argument command rows ≡ Some d → Fits d
file-fits argument command fits rows d e =
    let f = came (program_with command) (name_of argument rows) d e in
    subst Fits (some-same (command f.from) d f.gave) (fits f.from (name-fits argument rows f.from f.was))

batch-fits : (rows : List Row) (d : Command) → batch_of rows ≡ Some d → Fits d
batch-fits rows d e =
    let p = came (batch_from rows) (name_of (codes "program") rows) d e in
    let l = came (batch_on rows p.from) (name_of (codes "list") rows) d p.gave in
    let w = came (batch_with p.from l.from) (option_of (codes "workers") 64 rows) d l.gave in
    subst Fits (some-same (Batch p.from l.from w.from) d w.gave) (
      (name-fits (codes "program") rows p.from p.was, name-fits (codes "list") rows l.from l.was),
      option-fits 64 (first_of (codes "workers") rows) w.from w.was,
    )

sim-fit : (program input : Text) (seed : ℕ) (d : Command) → Some (Sim program input seed) ≡ Some d → IsFileName program → IsFileName input
    → seed ≤ 2 ^ 64 - 1 → Fits d
sim-fit program input seed d e p i small = subst Fits (some-same (Sim program input seed) d e) ((p, i), omega (arith, small))

sim-fits : (rows : List Row) (d : Command) → sim_of rows ≡ Some d → Fits d
sim-fits rows d e =
    let p = came (sim_from rows) (name_of (codes "program") rows) d e in
    let i = came (sim_on rows p.from) (name_of (codes "input") rows) d p.gave in
    let s = came (sim_with p.from i.from) (number_of (codes "seed") 0 (2 ^ 64 - 1) rows) d i.gave in
    let seed = number-fits (codes "seed") 0 (2 ^ 64 - 1) rows s.from s.was in
    sim-fit p.from i.from s.from d s.gave (name-fits (codes "program") rows p.from p.was) (name-fits (codes "input") rows i.from i.was) seed.1

replay-fits : (rows : List Row) (d : Command) → replay_of rows ≡ Some d → Fits d
replay-fits rows d e =
    let p = came (replay_from rows) (name_of (codes "program") rows) d e in
    let i = came (replay_on rows p.from) (name_of (codes "input") rows) d p.gave in
    let l = came (replay_with p.from i.from) (name_of (codes "log") rows) d i.gave in
    subst Fits (some-same (Replay p.from i.from l.from) d l.gave) (
      (name-fits (codes "program") rows p.from p.was, name-fits (codes "input") rows i.from i.was, name-fits (codes "log") rows l.from l.was),
      tt,
    )

decode_options-fit : (rows : List Row) (o : DecodeOptions) → decode_options_of rows ≡ Some o → HasDecodeNumbers o
decode_options-fit rows o e =
    let b = came (block_with rows) (option_of (codes "block") 65536 rows) o e in
    let w = came (decode_options_with rows b.from) (option_of (codes "workers") 64 rows) o b.gave in
    let block = option-fits 65536 (first_of (codes "block") rows) b.from b.was in
    let workers = option-fits 64 (first_of (codes "workers") rows) w.from w.was in
    subst HasDecodeNumbers (some-same _ o w.gave) (block, workers)

-- a decoder's command
decoding-fits : (command : Text → DecodeOptions → Command)
    → ((input : Text) (o : DecodeOptions) → IsFileName input → HasDecodeNumbers o → Fits (command input o))
    → (rows : List Row) (d : Command) → decoding_of command rows ≡ Some d → Fits d
decoding-fits command fits rows d e =
    let i = came (decoding_on command rows) (name_of (codes "input") rows) d e in
    let o = came (decoding_with command i.from) (decode_options_of rows) d i.gave in
    subst Fits (some-same (command i.from o.from) d o.gave)
    (fits i.from o.from (name-fits (codes "input") rows i.from i.was) (decode_options-fit rows o.from o.was))

lex-fits : (rows : List Row) (d : Command) → lex_of rows ≡ Some d → Fits d
lex-fits rows d e =
    let m = came (lex_from rows) (name_of (codes "machine") rows) d e in
    decoding-fits (Lex m.from) (λ input o i n. ((name-fits (codes "machine") rows m.from m.was, i), n)) rows d m.gave

demo-fit : (decoder : Kind) (seed size workers : ℕ) (d : Command) → Some (Demo decoder seed size workers) ≡ Some d → seed ≤ 2 ^ 64 - 1
    → IsUpTo 1000000 (Some size)
    → IsUpTo 64 (Some workers) → Fits d
demo-fit decoder seed size workers d e small sized worked =
    subst Fits (some-same (Demo decoder seed size workers) d e) (tt, (omega (arith, small), sized, worked))

demo-fits : (rows : List Row) (d : Command) → demo_of rows ≡ Some d → Fits d
demo-fits rows d e =
    let k = came (demo_from rows) (option_and_then kind_in (first_of (codes "kind") rows)) d e in
    let s = came (demo_seeded rows k.from) (number_of (codes "seed") 0 (2 ^ 64 - 1) rows) d k.gave in
    let z = came (demo_sized rows k.from s.from) (number_of (codes "size") 1 1000000 rows) d s.gave in
    let w = came (demo_with k.from s.from z.from) (number_of (codes "workers") 1 64 rows) d z.gave in
    let seed = number-fits (codes "seed") 0 (2 ^ 64 - 1) rows s.from s.was in
    let size = number-fits (codes "size") 1 1000000 rows z.from z.was in
    let workers = number-fits (codes "workers") 1 64 rows w.from w.was in
    demo-fit k.from s.from z.from w.from d w.gave seed.1 size workers

-- what two readers read fits where what each reads does
either : (t : Bool) (a b : Option Command) (d : Command) → (a ≡ Some d → Fits d) → (b ≡ Some d → Fits d) → (if t then a else b) ≡ Some d → Fits d
either true a b d f g e = f e
either false a b d f g e = g e

named-fits : (name : Text) (rows : List Row) (d : Command) → named name rows ≡ Some d → Fits d
named-fits name rows d =
    either (bytes_eq name (codes "run")) (run_of rows) _ d (run-fits rows d)
    (either (bytes_eq name (codes "check")) (program_of Check rows) _ d (program-fits Check (λ program p. (p, tt)) rows d)
    (either (bytes_eq name (codes "explain")) (program_of Explain rows) _ d (program-fits Explain (λ program p. (p, tt)) rows d)
    (either (bytes_eq name (codes "print")) (program_of Print rows) _ d (program-fits Print (λ program p. (p, tt)) rows d)
    (either (bytes_eq name (codes "unpack")) (decoding_of Unpack rows) _ d (decoding-fits Unpack (λ input o i n. (i, n)) rows d)
    (either (bytes_eq name (codes "unhuff")) (decoding_of Unhuff rows) _ d (decoding-fits Unhuff (λ input o i n. (i, n)) rows d)
    (either (bytes_eq name (codes "lex")) (lex_of rows) _ d (lex-fits rows d)
    (either (bytes_eq name (codes "demo")) (demo_of rows) _ d (demo-fits rows d)
    (either (bytes_eq name (codes "show")) (file_of (codes "machine") Show rows) _ d (file-fits (codes "machine") Show (λ file f. (f, tt)) rows d)
    (either (bytes_eq name (codes "build")) (file_of (codes "text") Build rows) _ d (file-fits (codes "text") Build (λ file f. (f, tt)) rows d)
    (either (bytes_eq name (codes "batch")) (batch_of rows) _ d (batch-fits rows d)
    (either (bytes_eq name (codes "sim")) (sim_of rows) _ d (sim-fits rows d)
    (either (bytes_eq name (codes "replay")) (replay_of rows) None d (replay-fits rows d) (λ e. absurd (none-some d e))))))))))))))

command-fits : (subcommand : Option (Text × List Row)) (d : Command) → command_in subcommand ≡ Some d → Fits d
command-fits None d e = absurd (none-some d e)
command-fits (Some subcommand) d e = named-fits subcommand.0 subcommand.1 d e

-- ---- whole answers

abbrev pub Words : Type 0
Words = List Text

-- the command that the matches of words give
abbrev pub found : Words → Option Command
found words = command_in (subcommand_of line words)

-- words that ask for a command give it
pub asked-found : (words : Words) (command : Command) → Asks words command → found words ≡ Some command
asked-found words command a = ap found a.words_are ∙ (is-read command a.files_are a.numbers_are).given

-- what words give is what they ask for, where it is written as they are
pub found-asked : (words : Words) (command : Command) → found words ≡ Some command → words ≡ words_of command → IsOnly (Asks words) command
found-asked words command e same =
    let fits = command-fits (subcommand_of line words) command e in
    record {
      is = record { words_are = same; files_are = fits.0; numbers_are = fits.1 };
      only = λ d a. some-same d command (sym (asked-found words d a) ∙ e);
    }

-- words that give nothing ask for nothing
pub found-never : (words : Words) → found words ≡ None → (command : Command) → Asks words command → ⊥
found-never words e command a = none-some command (sym e ∙ asked-found words command a)

-- words that give a command which is written otherwise ask for nothing
pub otherwise : (words : Words) (command : Command) → found words ≡ Some command → (words ≡ words_of command → ⊥) → (other : Command) → Asks words other → ⊥
otherwise words command e differs other a = differs (a.words_are ∙ ap words_of (some-same other command (sym (asked-found words other a) ∙ e)))

-- each list of words asks for one command, or for none
pub one_or_none : (words : Words) → ((command : Command) × IsOnly (Asks words) command) ⊎ ((command : Command) → Asks words command → ⊥)
one_or_none words = by_command (found words) refl
  where
    by_test : (command : Command) → found words ≡ Some command → (t : Bool) → (t ≡ true → words ≡ words_of command) → (words ≡ words_of command → t ≡ true)
        → ((d : Command) × IsOnly (Asks words) d) ⊎ ((d : Command) → Asks words d → ⊥)
    by_test command e true is was = inl (command, found-asked words command e (is refl))
    by_test command e false is was = inr (otherwise words command e (λ same. true≢false (sym (was same))))

    by_command : (o : Option Command) → found words ≡ o → ((command : Command) × IsOnly (Asks words) command) ⊎ ((command : Command) → Asks words command → ⊥)
    by_command None e = inr (found-never words e)
    by_command (Some command) e =
        let decides = slice_eq-Decides bytes_eq-Decides words (words_of command) (pointwise bytes_eq words (words_of command)) refl in
        by_test command e (pointwise bytes_eq words (words_of command)) decides.0 decides.1

-- ---- what `clap` says of the words

-- words that ask for a command are taken
pub asked-taken : (parsed : ClapCommand) (words : Words) (command : Command) → IsLine line parsed → Asks words command → takes (app_of parsed) words ≡ true
asked-taken parsed words command is a =
    ap (λ (app : App). takes app words) is.0 ∙ ap (takes line) a.words_are ∙ (is-read command a.files_are a.numbers_are).taken

simple-line : is_simple line ≡ true
simple-line = refl

-- the matches of words are those of the command line
pub matched : (parsed : ClapCommand) (words : Words) (m : ArgMatches) → IsLine line parsed → HasMatchesOf (app_of parsed) words m
    → command_in (subcommand_rows_of m) ≡ found words
matched parsed words m is has = ap command_in ((has (ap is_simple is.0 ∙ simple-line)).1 ∙ ap (λ (app : App). subcommand_of app words) is.0)

-- ---- words that are compared

texts-eq : {Z : Type 0} (xs ys : List (String Z)) → pointwise string_eq xs ys ≡ pointwise bytes_eq (map string_bytes xs) (map string_bytes ys)
texts-eq [] [] = refl
texts-eq [] (y ∷ ys) = refl
texts-eq (x ∷ xs) [] = refl
texts-eq (x ∷ xs) (y ∷ ys) = ap (λ (t : Bool). string_eq x y && t) (texts-eq xs ys)

-- what `==` says of words
pub compared : {Z : Type 0} (xs ys : List (String Z)) (r : Bool) → r ≡ pointwise string_eq xs ys → Decides r (map string_bytes xs ≡ map string_bytes ys)
compared xs ys r e = slice_eq-Decides bytes_eq-Decides (map string_bytes xs) (map string_bytes ys) r (e ∙ texts-eq xs ys)
