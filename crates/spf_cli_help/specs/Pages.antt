-- The words that ask for a page, and the texts of the pages.
use Rattle.std.specs.Prelude.{◌≡◌, ℕ, List, [], ◌∷◌, codes}
use Rattle.spf_cli_help.specs.declared.help.Page.{Page}
use Rattle.spf_cli_help.specs.declared.help.Page.TheVariants as page
use Rattle.spf_cli_help.specs.Texts.{help_text, version_text, run_text, check_text, explain_text, print_text, unpack_text, unhuff_text, lex_text, show_text, build_text, batch_text, sim_text, replay_text, demo_text}

-- the words that ask for a page
abbrev pub words_of : Page → List (List ℕ)
words_of page.Help = codes "--help" ∷ []
words_of page.Version = codes "--version" ∷ []
words_of page.Run = codes "run" ∷ codes "--help" ∷ []
words_of page.Check = codes "check" ∷ codes "--help" ∷ []
words_of page.Explain = codes "explain" ∷ codes "--help" ∷ []
words_of page.Print = codes "print" ∷ codes "--help" ∷ []
words_of page.Unpack = codes "unpack" ∷ codes "--help" ∷ []
words_of page.Unhuff = codes "unhuff" ∷ codes "--help" ∷ []
words_of page.Lex = codes "lex" ∷ codes "--help" ∷ []
words_of page.Show = codes "show" ∷ codes "--help" ∷ []
words_of page.Build = codes "build" ∷ codes "--help" ∷ []
words_of page.Batch = codes "batch" ∷ codes "--help" ∷ []
words_of page.Sim = codes "sim" ∷ codes "--help" ∷ []
words_of page.Replay = codes "replay" ∷ codes "--help" ∷ []
words_of page.Demo = codes "demo" ∷ codes "--help" ∷ []

-- the text of a page
abbrev pub text_of : Page → List ℕ
text_of page.Help = help_text
text_of page.Version = version_text
text_of page.Run = run_text
text_of page.Check = check_text
text_of page.Explain = explain_text
text_of page.Print = print_text
text_of page.Unpack = unpack_text
text_of page.Unhuff = unhuff_text
text_of page.Lex = lex_text
text_of page.Show = show_text
text_of page.Build = build_text
text_of page.Batch = batch_text
text_of page.Sim = sim_text
text_of page.Replay = replay_text
text_of page.Demo = demo_text

-- words are answered with this text
pub record IsAnswer (words : List (List ℕ)) (text : List ℕ) : Type 0 where
  pub page : Page
  pub words_are : words ≡ words_of page
  pub text_is : text ≡ text_of page
