-- Values of parameters that have few of them. DDM, volume 3, at each parameter.
use Rattle.std.specs.Prelude.{ℕ}

-- DDM, volume 3, SVRCOD
abbrev pub info : ℕ
info = 0

abbrev pub warning : ℕ
warning = 4

abbrev pub error : ℕ
error = 8

abbrev pub severe : ℕ
severe = 16

-- DDM, volume 3, UOWDSP
abbrev pub committed : ℕ
committed = 1

abbrev pub rolled_back : ℕ
rolled_back = 2

-- DDM, volume 3, SECMEC
abbrev pub user_and_password : ℕ
user_and_password = 3

abbrev pub user_alone : ℕ
user_alone = 4

-- DDM, volume 3, SECCHKCD
abbrev pub admitted : ℕ
admitted = 0

-- RLSCONV where release is asked or granted: this project's own
abbrev pub release : ℕ
release = 0xF2

-- RTNSETSTT where SET statements are asked: this project's own
abbrev pub return_sets : ℕ
return_sets = 0xF1
