use Rattle.refusals.proofs.refusal_number.Goals as goal

pub returns-in-NoWords : goal.returns-in-NoWords
returns-in-NoWords c = rw c.in-NoWords.is

pub returns-in-TooManyWords : goal.returns-in-TooManyWords
returns-in-TooManyWords c = rw c.in-TooManyWords.is

pub returns-in-LongWaitList : goal.returns-in-LongWaitList
returns-in-LongWaitList c = rw c.in-LongWaitList.is

pub returns-in-BadGateState : goal.returns-in-BadGateState
returns-in-BadGateState c = rw c.in-BadGateState.is

pub returns-in-ShortOutput : goal.returns-in-ShortOutput
returns-in-ShortOutput c = rw c.in-ShortOutput.is

pub returns-in-CutImage : goal.returns-in-CutImage
returns-in-CutImage c = rw c.in-CutImage.is

pub returns-in-WrongTag : goal.returns-in-WrongTag
returns-in-WrongTag c = rw c.in-WrongTag.is

pub returns-in-WrongLength : goal.returns-in-WrongLength
returns-in-WrongLength c = rw c.in-WrongLength.is

pub returns-in-WrongVersion : goal.returns-in-WrongVersion
returns-in-WrongVersion c = rw c.in-WrongVersion.is

pub returns-in-BadFlag : goal.returns-in-BadFlag
returns-in-BadFlag c = rw c.in-BadFlag.is

pub returns-in-BadWordCount : goal.returns-in-BadWordCount
returns-in-BadWordCount c = rw c.in-BadWordCount.is

pub returns-in-ShortMemory : goal.returns-in-ShortMemory
returns-in-ShortMemory c = rw c.in-ShortMemory.is

pub returns-in-TrailingBytes : goal.returns-in-TrailingBytes
returns-in-TrailingBytes c = rw c.in-TrailingBytes.is

pub returns-in-TooManyFiles : goal.returns-in-TooManyFiles
returns-in-TooManyFiles c = rw c.in-TooManyFiles.is

pub returns-in-FileMisplaced : goal.returns-in-FileMisplaced
returns-in-FileMisplaced c = rw c.in-FileMisplaced.is

pub returns-in-WordsMismatched : goal.returns-in-WordsMismatched
returns-in-WordsMismatched c = rw c.in-WordsMismatched.is

pub returns-in-BottomTooHigh : goal.returns-in-BottomTooHigh
returns-in-BottomTooHigh c = rw c.in-BottomTooHigh.is

pub returns-in-ResetsNotRising : goal.returns-in-ResetsNotRising
returns-in-ResetsNotRising c = rw c.in-ResetsNotRising.is
