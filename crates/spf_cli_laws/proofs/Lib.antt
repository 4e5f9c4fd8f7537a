mod OneAnswer
mod OneVerdict
