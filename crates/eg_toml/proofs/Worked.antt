-- What some documents weigh, worked out by hand.
use Rattle.std.proofs.Common.{◌≡◌, ℕ, ◌*◌, List, [], ◌∷◌, ◌++◌, map, codes, replicate, refl}
use Rattle.std.specs.List.{concat}
use Rattle.std.specs.Str.{chars}
use Rattle.eg_toml.specs.Weight.{weight_of}

-- a name, a second one, a text and a name in quotes; a table inline, by a dotted key, and by headings
names : map weight_of (
    codes "a = 0" ∷ codes "a = 0\nb = 0" ∷ codes "a = ''" ∷ codes "\"a\" = 0"
    ∷ codes "a = {}" ∷ codes "a.b = 0" ∷ codes "[a]" ∷ codes "[[a]]" ∷ codes "[a.b]" ∷ [])
    ≡ 32 ∷ 64 ∷ 64 ∷ 32 ∷ 1328 ∷ 1328 ∷ 1480 ∷ 1480 ∷ 2776 ∷ []
unfolding chars
names = refl

-- the sixteenth name of a table weighs more; a heading begins a table, and an inline table counts its own
abbrev as_many : ℕ → List ℕ
as_many n = concat (replicate n (codes "a=0\n"))

many_names : map weight_of (
    as_many 15 ∷ as_many 16 ∷ (as_many 15 ++ codes "[b]\na=0\n") ∷ (as_many 15 ++ codes "a={b=0}\na=0\n") ∷ [])
    ≡ 480 ∷ 27_480 ∷ 1992 ∷ 55_808 ∷ []
unfolding chars
many_names = refl

-- lists of none, one, four, five, eight and nine, with a comma behind the last or without, and a list of two of these
lists : map weight_of (
    codes "a=[]" ∷ codes "a=[0]" ∷ codes "a=[0,0,0,0,]" ∷ codes "a=[0,0,0,0,0]"
    ∷ codes "a=[0,0,0,0,0,0,0,0,]" ∷ codes "a=[0,0,0,0,0,0,0,0,0]"
    ∷ codes "a=[[0,0,0,0,0],[0]]" ∷ codes "a=[{b=0},{b=0}]" ∷ [])
    ≡ 32 ∷ 216 ∷ 216 ∷ 376 ∷ 376 ∷ 696 ∷ 744 ∷ 2872 ∷ []
unfolding chars
lists = refl

-- nothing weighs anything in comments and in texts of all four kinds, but that a text is a value
texts : map weight_of (
    codes "#[[{.=,'\n" ∷ codes "a=0#[[{.=\n[b]" ∷ codes "a='[{.=\\'" ∷ codes "a=\"[{.=\\\"[\""
    ∷ codes "a='''[{.'[''{=\n[''''' #" ∷ codes "a=\"\"\"[{.\"[\\\"\"\"{=\n[\"\"\"\""
    ∷ codes "a=\"\"\nb=''''''\n[c]" ∷ codes "a=['[','{',]" ∷ [])
    ≡ 0 ∷ 1512 ∷ 64 ∷ 64 ∷ 64 ∷ 64 ∷ 1608 ∷ 280 ∷ []
unfolding chars
texts = refl

-- the heaviest run of a campaign: with headings, 64 rows of slices, and a fault with two lists of 64; one of them, and
-- three, so that 1,000 weigh 54,952,000
abbrev heaviest_run : List ℕ
heaviest_run =
    codes "[['run']]\n'name'='a'\n'trace'='t'\n'image'='i'\n'engine'='diesel'\n'slices'=["
    ++ concat (replicate 64 (codes "[0,0,0,0,0,0,0,0,0,],")) ++ codes "]\n[['run'.'faults']]\n'class'='wild'\n'onset'=0\n'questions'=["
    ++ concat (replicate 64 (codes "0,")) ++ codes "]\n'opens'=[" ++ concat (replicate 64 (codes "true,")) ++ codes "]\n"

heaviest : map weight_of (heaviest_run ∷ concat (replicate 3 heaviest_run) ∷ []) ≡ 54952 ∷ 3 * 54952 ∷ []
unfolding chars
heaviest = refl
