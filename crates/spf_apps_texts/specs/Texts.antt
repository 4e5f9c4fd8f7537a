-- The texts of the programs, line by line.
use Rattle.std.specs.Prelude.{ℕ, ◌-◌, ◌*◌, List, [], ◌∷◌, ◌++◌, codes}
use Rattle.std.specs.Fmt.{decimal}
use Rattle.spf_apps_programs.specs.Lexer.{machine_length}

-- lines, each with its end
abbrev pub lines : List (List ℕ) → List ℕ
lines [] = []
lines (line ∷ rest) = line ++ 10 ∷ lines rest

-- the program that unpacks PackBits, with the digits of the size, and of one less
abbrev pub packbits_lines : (size one_less : List ℕ) → List (List ℕ)
packbits_lines size one_less =
    (codes "array rep[1*len + " ++ size ++ codes "];")
    ∷ codes "main {"
    ∷ (codes "  specfold s = 0 for k in 0..(len + " ++ one_less ++ codes ") / " ++ size ++ codes " predict 0 {")
    ∷ (codes "    fill rep[" ++ size ++ codes " * k.." ++ size ++ codes " * k + " ++ size ++ codes "] = 0;")
    ∷ codes "    let t = s;"
    ∷ (codes "    for i in " ++ size ++ codes " * k.." ++ size ++ codes " * k + " ++ size ++ codes " {")
    ∷ codes "      if i < len {"
    ∷ codes "        let b = input[i];"
    ∷ codes "        if t == 0 {"
    ∷ codes "          if b < 128 {"
    ∷ codes "            t = b + 1;"
    ∷ codes "          }"
    ∷ codes "          if b > 128 {"
    ∷ codes "            t = b - 257;"
    ∷ codes "          }"
    ∷ codes "        } else {"
    ∷ codes "          if t > 0 {"
    ∷ codes "            rep[i] = 1;"
    ∷ codes "            t = t - 1;"
    ∷ codes "          } else {"
    ∷ codes "            rep[i] = 0 - t;"
    ∷ codes "            t = 0;"
    ∷ codes "          }"
    ∷ codes "        }"
    ∷ codes "      }"
    ∷ codes "    }"
    ∷ codes "    next t;"
    ∷ codes "  }"
    ∷ codes "  for i in 0..len {"
    ∷ codes "    for j in 0..rep[i] {"
    ∷ codes "      emit input[i];"
    ∷ codes "    }"
    ∷ codes "  }"
    ∷ codes "}"
    ∷ []

-- the program that decodes HUF1, with the digits of the size, of one less, and of a block's bits
abbrev pub huffman_lines : (size one_less bits : List ℕ) → List (List ℕ)
huffman_lines size one_less bits =
    codes "array code[65536];"
    ∷ (codes "array sym[8*len + " ++ bits ++ codes "];")
    ∷ codes "fn bite(g, byte) {"
    ∷ codes "  let h = g;"
    ∷ codes "  for j in 0..8 {"
    ∷ codes "    if h != 0 {"
    ∷ codes "      h = h * 2 + (byte >> 7 - j & 1);"
    ∷ codes "      if h > 65535 {"
    ∷ codes "        h = 0;"
    ∷ codes "      } else {"
    ∷ codes "        if code[h] != 0 {"
    ∷ codes "          h = 1;"
    ∷ codes "        }"
    ∷ codes "      }"
    ∷ codes "    }"
    ∷ codes "  }"
    ∷ codes "  return h;"
    ∷ codes "}"
    ∷ codes "fn look(p) {"
    ∷ codes "  let h = 1;"
    ∷ codes "  for i in p - 16..p {"
    ∷ codes "    if i >= 0 {"
    ∷ codes "      h = bite(h, input[264 + i]);"
    ∷ codes "    }"
    ∷ codes "  }"
    ∷ codes "  return h;"
    ∷ codes "}"
    ∷ codes "main {"
    ∷ codes "  let v = 0;"
    ∷ codes "  for n in 1..16 {"
    ∷ codes "    for y in 0..256 {"
    ∷ codes "      if input[4 + y] == n {"
    ∷ codes "        code[(1 << n) + v] = y + 1;"
    ∷ codes "        v = v + 1;"
    ∷ codes "      }"
    ∷ codes "    }"
    ∷ codes "    v = v * 2;"
    ∷ codes "  }"
    ∷ (codes "  specfold s = 1 for k in 0..(len - 264 + " ++ one_less ++ codes ") / " ++ size
    ++ codes " predict look(" ++ size ++ codes " * k) {")
    ∷ (codes "    fill sym[" ++ bits ++ codes " * k.." ++ bits ++ codes " * k + " ++ bits ++ codes "] = 0;")
    ∷ codes "    let h = s;"
    ∷ (codes "    for i in 0.." ++ size ++ codes " {")
    ∷ (codes "      if " ++ size ++ codes " * k + i < len - 264 {")
    ∷ (codes "        let byte = input[264 + " ++ size ++ codes " * k + i];")
    ∷ codes "        for j in 0..8 {"
    ∷ codes "          if h != 0 {"
    ∷ codes "            h = h * 2 + (byte >> 7 - j & 1);"
    ∷ codes "            if h > 65535 {"
    ∷ codes "              h = 0;"
    ∷ codes "            } else {"
    ∷ codes "              if code[h] != 0 {"
    ∷ (codes "                sym[" ++ bits ++ codes " * k + 8 * i + j] = code[h];")
    ∷ codes "                h = 1;"
    ∷ codes "              }"
    ∷ codes "            }"
    ∷ codes "          }"
    ∷ codes "        }"
    ∷ codes "      }"
    ∷ codes "    }"
    ∷ codes "    next h;"
    ∷ codes "  }"
    ∷ codes "  let want = ((input[260] * 256 + input[261]) * 256 + input[262]) * 256 + input[263];"
    ∷ codes "  let got = 0;"
    ∷ codes "  for i in 0..8 * (len - 264) {"
    ∷ codes "    if sym[i] != 0 {"
    ∷ codes "      if got < want {"
    ∷ codes "        emit sym[i] - 1;"
    ∷ codes "        got = got + 1;"
    ∷ codes "      }"
    ∷ codes "    }"
    ∷ codes "  }"
    ∷ codes "  if got < want {"
    ∷ codes "    fail 1;"
    ∷ codes "  }"
    ∷ codes "}"
    ∷ []

-- the program that runs LEX1 machines, with the digits of the size, of one less, of the number of classes, and of the length
-- of a machine's file
abbrev pub lexer_lines : (size one_less classes machine : List ℕ) → List (List ℕ)
lexer_lines size one_less classes machine =
    (codes "array mark[1*len + " ++ size ++ codes "];")
    ∷ codes "fn look(p) {"
    ∷ codes "  let q = 0;"
    ∷ codes "  for i in p - 32..p {"
    ∷ codes "    if i >= 0 {"
    ∷ (codes "      q = input[262 + 2 * (q * " ++ classes ++ codes " + input[6 + input[" ++ machine ++ codes " + i]])];")
    ∷ codes "    }"
    ∷ codes "  }"
    ∷ codes "  return q;"
    ∷ codes "}"
    ∷ codes "main {"
    ∷ (codes "  specfold s = 0 for k in 0..(len - " ++ machine ++ codes " + " ++ one_less ++ codes ") / " ++ size
    ++ codes " predict look(" ++ size ++ codes " * k) {")
    ∷ (codes "    fill mark[" ++ size ++ codes " * k.." ++ size ++ codes " * k + " ++ size ++ codes "] = 0;")
    ∷ codes "    let q = s;"
    ∷ (codes "    for i in " ++ size ++ codes " * k.." ++ size ++ codes " * k + " ++ size ++ codes " {")
    ∷ (codes "      if i < len - " ++ machine ++ codes " {")
    ∷ (codes "        let e = 262 + 2 * (q * " ++ classes ++ codes " + input[6 + input[" ++ machine ++ codes " + i]]);")
    ∷ codes "        mark[i] = input[e + 1];"
    ∷ codes "        q = input[e];"
    ∷ codes "      }"
    ∷ codes "    }"
    ∷ codes "    next q;"
    ∷ codes "  }"
    ∷ (codes "  for i in 0..len - " ++ machine ++ codes " {")
    ∷ codes "    if mark[i] != 0 {"
    ∷ codes "      emit mark[i];"
    ∷ codes "      emit i >> 24;"
    ∷ codes "      emit i >> 16 & 255;"
    ∷ codes "      emit i >> 8 & 255;"
    ∷ codes "      emit i & 255;"
    ∷ codes "    }"
    ∷ codes "  }"
    ∷ codes "}"
    ∷ []

-- ---- the texts, for a block size, and for numbers of states and classes

abbrev pub packbits_text : ℕ → List ℕ
packbits_text size = lines (packbits_lines (decimal size) (decimal (size - 1)))

abbrev pub huffman_text : ℕ → List ℕ
huffman_text size = lines (huffman_lines (decimal size) (decimal (size - 1)) (decimal (8 * size)))

abbrev pub lexer_text : (size states classes : ℕ) → List ℕ
lexer_text size states classes =
    lines (lexer_lines (decimal size) (decimal (size - 1)) (decimal classes) (decimal (machine_length states classes)))
