-- The text of a large valid model file: the Standard Model with its Yukawa matrices, of one to six generations.
use Rattle.std.specs.Prelude.{ℕ, ◌+◌, ◌%◌, List, ◌++◌, codes, decimal}

-- the number of generations, which is written as one digit
abbrev pub generations_of : ℕ → ℕ
generations_of seed = 1 + seed % 6

-- a piece of the file, before and behind a text in its middle
unfoldable pub around : List ℕ → List ℕ → List ℕ → List ℕ
around middle before behind = before ++ middle ++ behind

-- the lines of the file's own keys and the groups
abbrev pub head_text : List ℕ → List ℕ
head_text digit =
    around digit (codes "profile = 1\nname = \"demo_") (codes "\"\n")
    ++ codes "group = [{name=\"U1\", n=1, coupling=\"g1\"}, {name=\"SU2\", n=2, coupling=\"g2\"}, {name=\"SU3\", n=3, coupling=\"g3\"}]\n"

-- the line of the quarks and leptons, all left-handed, and the line of the Higgs doublet
abbrev pub fields_text : List ℕ → List ℕ
fields_text digit =
    around digit (codes "fermion = [{name=\"Q\", generations=") (codes ", charge=\"1/6\", reps={SU2=\"fund\", SU3=\"fund\"}}, ")
    ++ around digit (codes "{name=\"u\", generations=") (codes ", charge=\"-2/3\", reps={SU3=\"conj\"}}, ")
    ++ around digit (codes "{name=\"d\", generations=") (codes ", charge=\"1/3\", reps={SU3=\"conj\"}}, ")
    ++ around digit (codes "{name=\"L\", generations=") (codes ", charge=\"-1/2\", reps={SU2=\"fund\"}}, ")
    ++ around digit (codes "{name=\"e\", generations=") (codes ", charge=\"1\"}]\n")
    ++ codes "scalar = [{name=\"H\", charge=\"1/2\", reps={SU2=\"fund\"}}]\n"

-- the lines of a matrix of Yukawa couplings
unfoldable pub matrix_text : List ℕ → List ℕ → List ℕ
matrix_text coupling text =
    around coupling (codes "[[term]]\ncoupling = \"") (codes "\"\nvalue = \"complex\"\nshape = \"matrix\"\nflavour = [\"i\", \"j\"]\n")
    ++ around text (codes "text = \"") (codes "\"\n")

-- the lines of all terms
abbrev pub terms_text : List ℕ
terms_text =
    matrix_text (codes "Yu") (codes "Q[i](a,c) u[j](c) H(b) eps(a,b)")
    ++ matrix_text (codes "Yd") (codes "Q[i](a,c) d[j](c) H~(a)")
    ++ matrix_text (codes "Ye") (codes "L[i](a) e[j] H~(a)")
    ++ codes "[[term]]\ncoupling = \"lam\"\ntext = \"H~(a) H(a) H~(b) H(b)\"\n"
    ++ codes "[[term]]\ncoupling = \"m2\"\ntext = \"H~(a) H(a)\"\n"

-- the whole file
abbrev pub text_with : List ℕ → List ℕ
text_with digit = head_text digit ++ fields_text digit ++ terms_text

abbrev pub demo_text : ℕ → List ℕ
demo_text seed = text_with (decimal (generations_of seed))
