-- The texts that are shown.
use Rattle.std.specs.Prelude.{ℕ, List, [], ◌∷◌, ◌++◌, codes}

-- lines, each with the line feed at its end
abbrev pub lines : List (List ℕ) → List ℕ
lines [] = []
lines (line ∷ others) = line ++ (10 ∷ lines others)

-- the help of the program
unfoldable pub help_text : List ℕ
help_text = lines (
    codes "spf 0.1.0"
    ∷ codes "Run programs for block-wise decoding, starting each block from a guess of its state."
    ∷ []
    ∷ codes "Usage: spf [--host KIND]... COMMAND"
    ∷ []
    ∷ codes "Commands:"
    ∷ codes "  run PROGRAM INPUT            Run a program on an input"
    ∷ codes "  check PROGRAM                Say whether the rules accept a program"
    ∷ codes "  explain PROGRAM              Show what each construct reads and writes"
    ∷ codes "  print PROGRAM                Print a program in its canonical form"
    ∷ codes "  unpack INPUT                 Unpack a PackBits file"
    ∷ codes "  unhuff INPUT                 Decode a HUF1 file"
    ∷ codes "  lex MACHINE INPUT            Split a text into tokens by a LEX1 machine"
    ∷ codes "  show MACHINE                 Show a LEX1 machine as a text"
    ∷ codes "  build TEXT                   Build the LEX1 machine of a text"
    ∷ codes "  batch PROGRAM LIST           Run a program on each file of a list"
    ∷ codes "  sim PROGRAM INPUT SEED       Simulate a run by blocks, and write its log"
    ∷ codes "  replay PROGRAM INPUT LOG     Say whether a log is that of a run by blocks"
    ∷ codes "  demo KIND SEED SIZE WORKERS  Run a decoder on a generated input"
    ∷ []
    ∷ codes "Options after the words of run, unpack, unhuff, lex and batch, in this order:"
    ∷ codes "  --block B      Split the input into blocks of B bytes (not for run and batch; default: 1024)"
    ∷ codes "  --workers N    Run the blocks with N workers (default: 4)"
    ∷ codes "  --stats        Show how many guesses were right (not for batch)"
    ∷ codes "  --cells        Show the cells of the arrays (only for run)"
    ∷ codes "  --plain        Run without guesses (only for run)"
    ∷ []
    ∷ codes "Options that stand alone or before a command:"
    ∷ codes "  --host KIND    Add a predictor: fixed:V, last, most, table or vote"
    ∷ codes "  --help         Show this help; after the name of a command, the help of that command"
    ∷ codes "  --version      Show the version"
    ∷ []
    ∷ codes "Exit status:"
    ∷ codes "  0  The command succeeded"
    ∷ codes "  1  The program trapped"
    ∷ codes "  2  The command line was not understood"
    ∷ codes "  3  The text of the program is not valid"
    ∷ codes "  4  The program breaks a rule"
    ∷ codes "  5  A file could not be read"
    ∷ codes "  6  The output could not be written"
    ∷ codes "  7  A file, a schedule or the arrays are too large, or a host is missing"
    ∷ codes "  8  Memory ran out"
    ∷ codes "  9  A file is not of its format: HUF1, LEX1, SPL1, the text of a machine, or a list of names"
    ∷ codes "  10 The log is not that of a run by blocks"
    ∷ []
    ∷ codes "Example:"
    ∷ codes "  spf run examples/doubling.spf examples/empty --stats"
    ∷ [])

-- the version
unfoldable pub version_text : List ℕ
version_text = lines (codes "spf 0.1.0" ∷ [])

-- the help of `run`
unfoldable pub run_text : List ℕ
run_text = lines (
    codes "Usage: spf run PROGRAM INPUT [--workers N] [--stats] [--cells] [--plain]"
    ∷ []
    ∷ codes "Run the program in the file PROGRAM on the file INPUT."
    ∷ codes "The output goes to standard output. The options stand in this order."
    ∷ []
    ∷ codes "Options:"
    ∷ codes "  --workers N  Run the blocks with N workers, 1 to 64 (default: 4)"
    ∷ codes "  --stats      Show how many guesses were right"
    ∷ codes "  --cells      Show the cells of the arrays"
    ∷ codes "  --plain      Run without guesses, even if the program breaks a rule"
    ∷ []
    ∷ codes "Example:"
    ∷ codes "  spf run examples/quotes.spf examples/quotes.txt --stats"
    ∷ [])

-- the help of `check`
unfoldable pub check_text : List ℕ
check_text = lines (
    codes "Usage: spf check PROGRAM"
    ∷ []
    ∷ codes "Say whether the rules accept the program in the file PROGRAM."
    ∷ codes "If they do not, the first rule that it breaks is shown, and the exit status is 4."
    ∷ []
    ∷ codes "Example:"
    ∷ codes "  spf check examples/quotes.spf"
    ∷ [])

-- the help of `explain`
unfoldable pub explain_text : List ℕ
explain_text = lines (
    codes "Usage: spf explain PROGRAM"
    ∷ []
    ∷ codes "Show what each construct of the program in the file PROGRAM reads and writes, and whether the rules accept it."
    ∷ []
    ∷ codes "Example:"
    ∷ codes "  spf explain examples/quotes.spf"
    ∷ [])

-- the help of `print`
unfoldable pub print_text : List ℕ
print_text = lines (
    codes "Usage: spf print PROGRAM"
    ∷ []
    ∷ codes "Print the program in the file PROGRAM in its canonical form."
    ∷ []
    ∷ codes "Example:"
    ∷ codes "  spf print examples/doubling.spf"
    ∷ [])

-- the help of `unpack`
unfoldable pub unpack_text : List ℕ
unpack_text = lines (
    codes "Usage: spf unpack INPUT [--block B] [--workers N] [--stats]"
    ∷ []
    ∷ codes "Unpack the PackBits file INPUT."
    ∷ codes "The output goes to standard output. The options stand in this order."
    ∷ []
    ∷ codes "Options:"
    ∷ codes "  --block B    Split the input into blocks of B bytes, 1 to 65536 (default: 1024)"
    ∷ codes "  --workers N  Run the blocks with N workers, 1 to 64 (default: 4)"
    ∷ codes "  --stats      Show how many guesses were right"
    ∷ []
    ∷ codes "Example:"
    ∷ codes "  spf unpack examples/tn1023.pack --block 4 --stats > unpacked"
    ∷ [])

-- the help of `unhuff`
unfoldable pub unhuff_text : List ℕ
unhuff_text = lines (
    codes "Usage: spf unhuff INPUT [--block B] [--workers N] [--stats]"
    ∷ []
    ∷ codes "Decode the HUF1 file INPUT."
    ∷ codes "The output goes to standard output. The options stand in this order."
    ∷ []
    ∷ codes "Options:"
    ∷ codes "  --block B    Split the input into blocks of B bytes, 1 to 65536 (default: 1024)"
    ∷ codes "  --workers N  Run the blocks with N workers, 1 to 64 (default: 4)"
    ∷ codes "  --stats      Show how many guesses were right"
    ∷ []
    ∷ codes "Example:"
    ∷ codes "  spf unhuff examples/notes.huf --workers 8 > notes"
    ∷ [])

-- the help of `lex`
unfoldable pub lex_text : List ℕ
lex_text = lines (
    codes "Usage: spf lex MACHINE INPUT [--block B] [--workers N] [--stats]"
    ∷ []
    ∷ codes "Split the text in the file INPUT into tokens by the LEX1 machine in the file MACHINE."
    ∷ codes "The output goes to standard output. The options stand in this order."
    ∷ []
    ∷ codes "Options:"
    ∷ codes "  --block B    Split the input into blocks of B bytes, 1 to 65536 (default: 1024)"
    ∷ codes "  --workers N  Run the blocks with N workers, 1 to 64 (default: 4)"
    ∷ codes "  --stats      Show how many guesses were right"
    ∷ []
    ∷ codes "Example:"
    ∷ codes "  spf lex examples/tokens.lex examples/count.c --stats > tokens"
    ∷ [])

-- the help of `show`
unfoldable pub show_text : List ℕ
show_text = lines (
    codes "Usage: spf show MACHINE"
    ∷ []
    ∷ codes "Show the LEX1 machine in the file MACHINE as a text, which goes to standard output."
    ∷ codes "The command build gives the machine back."
    ∷ []
    ∷ codes "Lines:"
    ∷ codes "  states S classes C   The numbers of states and classes"
    ∷ codes "  class N BYTE...      The bytes of a class in hexadecimal; all other bytes are of class 0"
    ∷ codes "  state N NEXT/MARK... For each class the next state, and the kind of token that begins, or 0"
    ∷ []
    ∷ codes "Example:"
    ∷ codes "  spf show examples/tokens.lex > tokens.txt"
    ∷ [])

-- the help of `build`
unfoldable pub build_text : List ℕ
build_text = lines (
    codes "Usage: spf build TEXT"
    ∷ []
    ∷ codes "Build the LEX1 machine whose text is in the file TEXT; the machine goes to standard output."
    ∷ codes "The text has to be just as the command show writes it."
    ∷ []
    ∷ codes "Example:"
    ∷ codes "  spf build tokens.txt > tokens.lex"
    ∷ [])

-- the help of `batch`
unfoldable pub batch_text : List ℕ
batch_text = lines (
    codes "Usage: spf batch PROGRAM LIST [--workers N]"
    ∷ []
    ∷ codes "Run the program in the file PROGRAM on one file after another."
    ∷ codes "LIST is a file with one name on each line, at most 1,000. Hosts learn from file to file."
    ∷ codes "The answers go to standard output. Each is a line, the output of the program, and a line end:"
    ∷ codes "  NAME done length L              The program ended, after L bytes"
    ∷ codes "  NAME trap KIND line N length L  The program trapped, after L bytes"
    ∷ codes "A file that cannot be read or is too large ends the batch."
    ∷ []
    ∷ codes "Options:"
    ∷ codes "  --workers N  Run the blocks with N workers, 1 to 64 (default: 4)"
    ∷ []
    ∷ codes "Example:"
    ∷ codes "  spf --host vote batch examples/hosted.spf names.txt > answers"
    ∷ [])

-- the help of `sim`
unfoldable pub sim_text : List ℕ
sim_text = lines (
    codes "Usage: spf sim PROGRAM INPUT SEED"
    ∷ []
    ∷ codes "Simulate a run by blocks of the program in the file PROGRAM on the file INPUT, and write its log."
    ∷ codes "The schedule is drawn from the number SEED. The log goes to standard output, in the format SPL1."
    ∷ codes "The output of the program is not written. How many guesses were right is shown on standard error."
    ∷ []
    ∷ codes "Arguments:"
    ∷ codes "  SEED  A number below 2^64; the schedule that it gives may have 1000000 steps at most"
    ∷ []
    ∷ codes "Example:"
    ∷ codes "  spf sim examples/quotes.spf examples/quotes.txt 7 > quotes.log"
    ∷ [])

-- the help of `replay`
unfoldable pub replay_text : List ℕ
replay_text = lines (
    codes "Usage: spf replay PROGRAM INPUT LOG"
    ∷ []
    ∷ codes "Say whether the file LOG is the log of a run by blocks of the program in the file PROGRAM on the file INPUT."
    ∷ codes "The command sim writes such logs. The predictors have to be the same."
    ∷ codes "The answer goes to standard output:"
    ∷ codes "  yes           It is"
    ∷ codes "  no section N  It is not, and the exit status is 10"
    ∷ codes "Section N, counted from 0, is the first that is not a run of its construct, is missing, or is one too many."
    ∷ []
    ∷ codes "Example:"
    ∷ codes "  spf replay examples/quotes.spf examples/quotes.txt quotes.log"
    ∷ [])

-- the help of `demo`
unfoldable pub demo_text : List ℕ
demo_text = lines (
    codes "Usage: spf demo KIND SEED SIZE WORKERS"
    ∷ []
    ∷ codes "Run a decoder on an input that is generated from a number, in blocks of 1024 bytes."
    ∷ codes "One line with the sum of the output's bytes and the number of right guesses goes to standard output."
    ∷ []
    ∷ codes "Arguments:"
    ∷ codes "  KIND     unpack, unhuff or lex"
    ∷ codes "  SEED     A number below 2^64, from which the input is generated"
    ∷ codes "  SIZE     The size of the input, 1 to 1000000"
    ∷ codes "  WORKERS  The number of workers that run the blocks, 1 to 64"
    ∷ []
    ∷ codes "Example:"
    ∷ codes "  spf demo lex 7 1000000 8"
    ∷ [])
